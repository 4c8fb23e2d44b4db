use Rattle.wl_features.proofs.TakenLaws.{one_taken}
use Rattle.wl_features.proofs.laws.features_are_one.Goals as goal

pub returns : goal.returns
returns c = one_taken
