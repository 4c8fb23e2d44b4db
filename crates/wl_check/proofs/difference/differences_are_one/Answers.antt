use Rattle.wl_check.proofs.DifferenceLaws.{one_difference}
use Rattle.wl_check.proofs.difference.differences_are_one.Goals as goal

pub returns : goal.returns
returns c = one_difference
