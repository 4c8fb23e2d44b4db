use Rattle.std.proofs.Common.{◌≡◌, ◌++◌, drop, map}
use Rattle.std.specs.List.{flat_map, AllByRecursion}
use Rattle.wl_check.specs.Ranges.{InRange}
use Rattle.wl_check.specs.Texts.{line_text}
use Rattle.wl_plan.specs.PlanLines.{import_line}
use Rattle.wl_plan.proofs.lines.push_imports.Given as goal

abbrev pub invariant-loop-import : goal.invariant-loop-import
invariant-loop-import l =
    (l.page ++ flat_map line_text (map import_line (drop l.import-index l.imports)) ≡ l.initial.page ++ flat_map line_text (map import_line l.imports))
    × (AllByRecursion InRange (map import_line (drop l.import-index l.imports)) → AllByRecursion InRange (map import_line l.imports))
