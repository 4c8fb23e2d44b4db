use Rattle.wl_bytes.proofs.ListLaws.{exact}
use Rattle.wl_ops.proofs.DecodeLaws.{decoded_reading}
use Rattle.wl_ops.proofs.laws.operators_or_fault.Goals as goal

pub returns : goal.returns
returns c = exact decoded_reading
