use Rattle.std.proofs.Common.{◌≡◌, ◌++◌, drop, map}
use Rattle.std.specs.List.{flat_map, AllByRecursion}
use Rattle.wl_check.specs.Ranges.{InRange}
use Rattle.wl_check.specs.Texts.{line_text}
use Rattle.wl_plan.specs.PlanLines.{export_line}
use Rattle.wl_plan.proofs.lines.push_exports.Given as goal

abbrev pub invariant-loop-export : goal.invariant-loop-export
invariant-loop-export l =
    (l.page ++ flat_map line_text (map export_line (drop l.export-index l.exports)) ≡ l.initial.page ++ flat_map line_text (map export_line l.exports))
    × (AllByRecursion InRange (map export_line (drop l.export-index l.exports)) → AllByRecursion InRange (map export_line l.exports))
