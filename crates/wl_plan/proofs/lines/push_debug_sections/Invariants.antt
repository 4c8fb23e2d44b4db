use Rattle.std.proofs.Common.{◌≡◌, ◌++◌, drop, map}
use Rattle.std.specs.List.{flat_map, AllByRecursion}
use Rattle.wl_check.specs.Ranges.{InRange}
use Rattle.wl_check.specs.Texts.{line_text}
use Rattle.wl_plan.specs.PlanLines.{debug_line, AreDebugSectionsSmall}
use Rattle.wl_plan.proofs.lines.push_debug_sections.Given as goal

abbrev pub invariant-loop-section : goal.invariant-loop-section
invariant-loop-section l =
    (l.page ++ flat_map line_text (map debug_line (drop l.section-index l.sections)) ≡ l.initial.page ++ flat_map line_text (map debug_line l.sections))
    × (AreDebugSectionsSmall l.sections → AllByRecursion InRange (map debug_line (drop l.section-index l.sections)) → AllByRecursion InRange (map debug_line l.sections))
