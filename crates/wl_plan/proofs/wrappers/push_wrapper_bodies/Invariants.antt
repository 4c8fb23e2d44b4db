use Rattle.wl_plan.proofs.WrapperLaws.{HasWrapperBodies}
use Rattle.wl_plan.proofs.wrappers.push_wrapper_bodies.Given as goal

abbrev pub invariant-loop-wrapper : goal.invariant-loop-wrapper
invariant-loop-wrapper l =
    HasWrapperBodies l.input l.wrapper-index l.initial.bodies.items l.bodies.items
