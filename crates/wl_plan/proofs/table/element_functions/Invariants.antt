use Rattle.std.proofs.Common.{take}
use Rattle.std.specs.List.{AllZip}
use Rattle.wl_bind.specs.Scan.{table_functions}
use Rattle.wl_plan.specs.Table.{IsElement}
use Rattle.wl_plan.proofs.table.element_functions.Given as goal

abbrev pub invariant-loop-target : goal.invariant-loop-target
invariant-loop-target l =
    AllZip (IsElement l.input) (take l.target-index (table_functions l.input)) l.elements.items
