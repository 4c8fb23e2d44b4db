use Rattle.std.proofs.Common.{◌≡◌, ◌++◌, drop}
use Rattle.wl_places.specs.KeptData.{kept_from, kept_segments}
use Rattle.wl_places.proofs.kept_data.kept_segments.Given as goal

abbrev pub invariant-loop-number : goal.invariant-loop-number
invariant-loop-number l =
    l.kept.items ++ kept_from l.input l.object l.file l.number (drop l.number l.file.segments)
    ≡ kept_segments l.input l.object l.file
