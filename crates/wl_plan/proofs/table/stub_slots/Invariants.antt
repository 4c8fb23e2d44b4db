use Rattle.std.proofs.Common.{◌≡◌, map, take}
use Rattle.wl_bind.specs.FunctionBinding.{link_stubs}
use Rattle.wl_bind.specs.FunctionSpace.{function_space}
use Rattle.wl_plan.specs.steps.Table.{stub_slot}
use Rattle.wl_plan.proofs.table.stub_slots.Given as goal

abbrev pub invariant-loop-stub : goal.invariant-loop-stub
invariant-loop-stub l =
    l.slots.items ≡ map (stub_slot (take l.stub (link_stubs l.input))) (function_space l.input)
