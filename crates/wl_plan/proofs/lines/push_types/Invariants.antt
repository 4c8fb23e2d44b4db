use Rattle.std.proofs.Common.{◌≡◌, ◌++◌, drop}
use Rattle.std.specs.List.{flat_map, AllByRecursion}
use Rattle.wl_check.specs.Ranges.{InRange}
use Rattle.wl_check.specs.Texts.{line_text}
use Rattle.wl_plan.specs.PlanLines.{numbered_lines, type_line, HaveNumbers}
use Rattle.wl_plan.proofs.lines.push_types.Given as goal

abbrev pub invariant-loop-i : goal.invariant-loop-i
invariant-loop-i l =
    (l.page ++ flat_map line_text (numbered_lines type_line l.i (drop l.i l.types)) ≡ l.initial.page ++ flat_map line_text (numbered_lines type_line 0 l.types))
    × (HaveNumbers 0 l.types → AllByRecursion InRange (numbered_lines type_line l.i (drop l.i l.types)) → AllByRecursion InRange (numbered_lines type_line 0 l.types))
