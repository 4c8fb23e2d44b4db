use Rattle.wl_symbols.proofs.KeptLaws.{undecoded_refers}
use Rattle.wl_symbols.proofs.kept_laws.undecoded_bodies_refer_to_none.Goals as goal

pub returns : goal.returns
returns c = λ link u v by none. undecoded_refers c.numbers_are_one.ensures.one link u v by none
