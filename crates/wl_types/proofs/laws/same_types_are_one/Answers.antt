use Rattle.wl_types.proofs.SameLaws.{type_is}
use Rattle.wl_types.proofs.laws.same_types_are_one.Goals as goal

pub returns : goal.returns
returns c = type_is
