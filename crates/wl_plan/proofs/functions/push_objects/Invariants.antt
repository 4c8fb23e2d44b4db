use Rattle.std.proofs.Common.{take}
use Rattle.wl_bind.specs.FunctionSpace.{functions_of}
use Rattle.wl_bind.specs.Parts.{by_object}
use Rattle.wl_plan.specs.steps.Functions.{AddsFunctions}
use Rattle.wl_plan.proofs.functions.push_objects.Given as goal

abbrev pub invariant-loop-object : goal.invariant-loop-object
invariant-loop-object l =
    AddsFunctions l.input (by_object (functions_of l.input) 0 (take l.object l.input.link.objects))
    l.initial.functions.items l.functions.items
