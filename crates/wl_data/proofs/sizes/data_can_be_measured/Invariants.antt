use Rattle.std.proofs.Common.{◌≡◌, take, min}
use Rattle.wl_data.specs.Sizes.{all_encoded_bytes}
use Rattle.wl_data.proofs.sizes.data_can_be_measured.Given as goal

abbrev pub invariant-loop-object : goal.invariant-loop-object
invariant-loop-object l = l.bytes ≡ min (all_encoded_bytes (take l.object-index l.layouts)) 18446744073709551615
