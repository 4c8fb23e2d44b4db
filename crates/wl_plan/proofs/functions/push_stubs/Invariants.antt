use Rattle.std.proofs.Common.{take}
use Rattle.wl_bind.specs.FunctionSpace.{stub_part}
use Rattle.wl_plan.specs.steps.Functions.{AddsFunctions}
use Rattle.wl_plan.proofs.functions.push_stubs.Given as goal

abbrev pub invariant-loop-place : goal.invariant-loop-place
invariant-loop-place l =
    AddsFunctions l.input (take l.place (stub_part l.input)) l.initial.functions.items
    l.functions.items
