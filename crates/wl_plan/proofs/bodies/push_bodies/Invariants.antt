use Rattle.wl_plan.specs.BodySteps.{AddsBodies, AreRewritten}
use Rattle.wl_plan.proofs.FunctionLaws.{functions_below}
use Rattle.wl_plan.proofs.bodies.push_bodies.Given as goal

abbrev pub invariant-loop-function : goal.invariant-loop-function
invariant-loop-function l =
    AddsBodies l.renumbering.input.now l.renumbering.placing.now
    (functions_below l.renumbering.input.now l.object l.function) l.initial.bodies.items
    l.bodies.items
    × AreRewritten l.renumbering.input.now l.renumbering.placing.now l.rewritten.items
