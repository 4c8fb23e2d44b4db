use Rattle.std.proofs.Common.{◌≡◌, drop, map, max}
use Rattle.wl_module.specs.Imports.{Imported}
use Rattle.wl_bind.specs.Made.{table_minimum, greatest}
use Rattle.wl_plan.specs.steps.Table.{table_minimums}
use Rattle.wl_plan.proofs.table.object_minimum.Given as goal

abbrev pub invariant-loop-import : goal.invariant-loop-import
invariant-loop-import l =
    max (greatest (map (λ (i : Imported). table_minimum i.entity) (drop l.import-index l.import-items))) l.size
    ≡ greatest (table_minimums l.file)
