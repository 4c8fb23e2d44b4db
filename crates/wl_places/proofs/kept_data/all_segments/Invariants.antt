use Rattle.std.proofs.Common.{◌≡◌, ◌++◌, drop}
use Rattle.wl_places.specs.KeptData.{all_segments, segments_from}
use Rattle.wl_places.proofs.kept_data.all_segments.Given as goal

abbrev pub invariant-loop-object : goal.invariant-loop-object
invariant-loop-object l =
    l.all.items ++ segments_from l.input l.object (drop l.object l.input.link.objects)
    ≡ all_segments l.input
