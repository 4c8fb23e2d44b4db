use Rattle.wl_live.proofs.WitnessLaws.{some_facts}
use Rattle.wl_live.proofs.laws.facts_exist.Goals as goal

pub returns : goal.returns
returns c = λ objects none. some_facts objects none
