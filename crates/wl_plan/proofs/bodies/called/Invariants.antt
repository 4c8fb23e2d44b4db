use Rattle.std.proofs.Common.{◌≡◌, map, take}
use Rattle.wl_plan.specs.Bodies.{called}
use Rattle.wl_plan.proofs.bodies.called.Given as goal

abbrev pub invariant-loop-call : goal.invariant-loop-call
invariant-loop-call l = l.pairs.items ≡ map called (take l.call-index l.calls)
