use Rattle.wl_ops.proofs.OneLaws.{one_decoding}
use Rattle.wl_ops.proofs.laws.operators_are_one.Goals as goal

pub returns : goal.returns
returns c = λ ops other body s u. one_decoding ops other body s u
