use Rattle.std.proofs.Common.{◌≡◌, ◌+◌, ◌++◌, drop}
use Rattle.std.specs.List.{flat_map, AllByRecursion}
use Rattle.wl_check.specs.Ranges.{InRange}
use Rattle.wl_check.specs.Texts.{line_text}
use Rattle.wl_plan.specs.PlanLines.{numbered_lines, function_line, HaveNumbers}
use Rattle.wl_plan.proofs.lines.push_functions.Given as goal

abbrev pub invariant-loop-i : goal.invariant-loop-i
invariant-loop-i l =
    (l.page ++ flat_map line_text (numbered_lines function_line (l.first + l.i) (drop l.i l.functions)) ≡ l.initial.page ++ flat_map line_text (numbered_lines function_line l.first l.functions))
    × (HaveNumbers l.first l.functions → AllByRecursion InRange (numbered_lines function_line (l.first + l.i) (drop l.i l.functions)) → AllByRecursion InRange (numbered_lines function_line l.first l.functions))
