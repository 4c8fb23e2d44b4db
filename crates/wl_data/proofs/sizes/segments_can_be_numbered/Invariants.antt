use Rattle.std.proofs.Common.{◌≡◌, take, min}
use Rattle.wl_data.specs.Sizes.{segment_count}
use Rattle.wl_data.proofs.sizes.segments_can_be_numbered.Given as goal

abbrev pub invariant-loop-object : goal.invariant-loop-object
invariant-loop-object l = l.count ≡ min (segment_count (take l.object-index l.layouts)) 18446744073709551615
