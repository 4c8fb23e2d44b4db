use Rattle.wl_symbols.specs.KeptRelocations.{relocations_left}
use Rattle.wl_plan.specs.BodySteps.{AreRewritten}
use Rattle.wl_plan.proofs.PositionLaws.{HasCome}
use Rattle.wl_plan.proofs.positions.walk_fields.Given as goal

abbrev pub invariant-loop-relocated : goal.invariant-loop-relocated
invariant-loop-relocated l =
    HasCome l.renumbering.input.now l.renumbering.placing.now l.run.items
    (relocations_left l.relocated-iterator) l.moved.positions.items
    × AreRewritten l.renumbering.input.now l.renumbering.placing.now l.moved.bodies.items
