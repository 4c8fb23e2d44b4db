use Rattle.std.proofs.Common.{◌≡◌, ◌++◌, drop}
use Rattle.std.specs.List.{flat_map, AllByRecursion}
use Rattle.wl_check.specs.Ranges.{InRange}
use Rattle.wl_check.specs.Texts.{line_text}
use Rattle.wl_plan.specs.PlanLines.{numbered_lines, segment_line, HaveNumbers, ArePayloadsSmall}
use Rattle.wl_plan.proofs.lines.push_segments.Given as goal

abbrev pub invariant-loop-i : goal.invariant-loop-i
invariant-loop-i l =
    (l.page ++ flat_map line_text (numbered_lines segment_line l.i (drop l.i l.segments)) ≡ l.initial.page ++ flat_map line_text (numbered_lines segment_line 0 l.segments))
    × (HaveNumbers 0 l.segments → ArePayloadsSmall l.segments → AllByRecursion InRange (numbered_lines segment_line l.i (drop l.i l.segments)) → AllByRecursion InRange (numbered_lines segment_line 0 l.segments))
