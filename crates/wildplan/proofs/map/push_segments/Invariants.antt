use Rattle.std.proofs.Common.{◌≡◌, ◌++◌, drop}
use Rattle.wl_text.specs.Pieces.{numbered}
use Rattle.wildplan.specs.Map.{data_line}
use Rattle.wildplan.proofs.map.push_segments.Given as goal

abbrev pub invariant-loop-i : goal.invariant-loop-i
invariant-loop-i l = l.page ++ numbered data_line l.i (drop l.i l.segments) ≡ l.initial.page ++ numbered data_line 0 l.segments
