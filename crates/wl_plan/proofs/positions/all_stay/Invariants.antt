use Rattle.wl_plan.proofs.PositionLaws.{NoneSoFar}
use Rattle.wl_plan.proofs.positions.all_stay.Given as goal

abbrev pub invariant-loop-object : goal.invariant-loop-object
invariant-loop-object l = NoneSoFar l.input l.object
