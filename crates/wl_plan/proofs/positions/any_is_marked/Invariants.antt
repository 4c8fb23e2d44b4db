use Rattle.wl_plan.specs.steps.Positions.{NoneIsMarked}
use Rattle.wl_plan.proofs.positions.any_is_marked.Given as goal

abbrev pub invariant-loop-function : goal.invariant-loop-function
invariant-loop-function l = NoneIsMarked l.live l.object l.function
