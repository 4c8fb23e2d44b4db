use Rattle.std.proofs.Common.{◌≡◌, length, min, sum_by, take}
use Rattle.wl_places.proofs.placing.check_segment_count.Given as goal

abbrev pub invariant-loop-object : goal.invariant-loop-object
invariant-loop-object l =
    l.count ≡ min (sum_by length (take l.object-index l.segments)) 18446744073709551615
