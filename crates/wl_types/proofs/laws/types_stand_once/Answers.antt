use Rattle.wl_types.proofs.FirstLaws.{types_once}
use Rattle.wl_types.proofs.laws.types_stand_once.Goals as goal

pub returns : goal.returns
returns c = types_once
