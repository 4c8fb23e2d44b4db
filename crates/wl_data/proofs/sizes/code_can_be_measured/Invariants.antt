use Rattle.std.proofs.Common.{◌≡◌, take, min}
use Rattle.wl_data.specs.Sizes.{body_bytes}
use Rattle.wl_data.proofs.sizes.code_can_be_measured.Given as goal

abbrev pub invariant-loop-body : goal.invariant-loop-body
invariant-loop-body l = l.bytes ≡ min (body_bytes (take l.body-index l.bodies)) 18446744073709551615
