use Rattle.std.proofs.Common.{◌≡◌, take, min}
use Rattle.wl_data.specs.Sizes.{encoded_bytes}
use Rattle.wl_data.proofs.sizes.object_bytes_at_most.Given as goal

abbrev pub invariant-loop-layout : goal.invariant-loop-layout
invariant-loop-layout l = l.bytes ≡ min (encoded_bytes (take l.layout-index l.layouts)) 18446744073709551615
