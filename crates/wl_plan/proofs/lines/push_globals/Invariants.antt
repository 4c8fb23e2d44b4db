use Rattle.std.proofs.Common.{◌≡◌, ◌+◌, ◌++◌, drop}
use Rattle.std.specs.List.{flat_map, AllByRecursion}
use Rattle.wl_check.specs.Ranges.{InRange}
use Rattle.wl_check.specs.Texts.{line_text}
use Rattle.wl_plan.specs.PlanLines.{numbered_lines, global_line, HaveNumbers}
use Rattle.wl_plan.proofs.lines.push_globals.Given as goal

abbrev pub invariant-loop-i : goal.invariant-loop-i
invariant-loop-i l =
    (l.page ++ flat_map line_text (numbered_lines global_line (l.first + l.i) (drop l.i l.globals)) ≡ l.initial.page ++ flat_map line_text (numbered_lines global_line l.first l.globals))
    × (HaveNumbers l.first l.globals → AllByRecursion InRange (numbered_lines global_line (l.first + l.i) (drop l.i l.globals)) → AllByRecursion InRange (numbered_lines global_line l.first l.globals))
