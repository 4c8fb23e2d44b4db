use Rattle.std.proofs.Common.{◌≡◌, drop, max, flat_map}
use Rattle.wl_bind.specs.Made.{table_size, greatest}
use Rattle.wl_plan.specs.steps.Table.{table_minimums}
use Rattle.wl_plan.proofs.table.table_size.Given as goal

abbrev pub invariant-loop-file : goal.invariant-loop-file
invariant-loop-file l =
    max l.size (greatest (flat_map table_minimums (drop l.file-index l.file-items))) ≡ table_size l.input
