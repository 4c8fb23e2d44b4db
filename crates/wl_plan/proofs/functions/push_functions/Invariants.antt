use Rattle.wl_plan.specs.steps.Functions.{AddsFunctions}
use Rattle.wl_plan.proofs.FunctionLaws.{functions_below}
use Rattle.wl_plan.proofs.functions.push_functions.Given as goal

abbrev pub invariant-loop-function : goal.invariant-loop-function
invariant-loop-function l =
    AddsFunctions l.input (functions_below l.input l.object l.function) l.initial.functions.items
    l.functions.items
