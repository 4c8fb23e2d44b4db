use Rattle.wl_ops.proofs.KeepLaws.{keeps}
use Rattle.wl_ops.proofs.laws.rewriting_keeps_operators.Goals as goal

pub returns : goal.returns
returns c = keeps
