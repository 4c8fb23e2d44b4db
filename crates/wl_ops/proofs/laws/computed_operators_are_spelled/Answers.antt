use Rattle.wl_ops.proofs.DecodeLaws.{body_found}
use Rattle.wl_ops.proofs.laws.computed_operators_are_spelled.Goals as goal

pub returns : goal.returns
returns c = λ ops body e. body_found body ops e
