use Rattle.std.proofs.Common.{◌≡◌, map, take}
use Rattle.wl_bind.specs.FunctionSpace.{function_space}
use Rattle.wl_bind.specs.Scan.{table_functions}
use Rattle.wl_plan.specs.steps.Table.{slot_among}
use Rattle.wl_plan.proofs.table.space_slots.Given as goal

abbrev pub invariant-loop-place : goal.invariant-loop-place
invariant-loop-place l =
    l.slots.items ≡ map (slot_among (take l.place (table_functions l.input))) (function_space l.input)
