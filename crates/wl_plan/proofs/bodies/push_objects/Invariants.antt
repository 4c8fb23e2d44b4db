use Rattle.std.proofs.Common.{take}
use Rattle.wl_bind.specs.FunctionSpace.{functions_of}
use Rattle.wl_bind.specs.Parts.{by_object}
use Rattle.wl_plan.specs.BodySteps.{AddsBodies, AreRewritten}
use Rattle.wl_plan.proofs.bodies.push_objects.Given as goal

abbrev pub invariant-loop-object : goal.invariant-loop-object
invariant-loop-object l =
    AddsBodies l.renumbering.input.now l.renumbering.placing.now
    (by_object (functions_of l.renumbering.input.now) 0
    (take l.object l.renumbering.input.now.link.objects)) l.initial.bodies.items l.bodies.items
    × AreRewritten l.renumbering.input.now l.renumbering.placing.now l.rewritten.items
