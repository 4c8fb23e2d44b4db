use Rattle.std.proofs.Common.{take}
use Rattle.wl_why.specs.Explaining.{AreVisitSteps}
use Rattle.wl_why.proofs.explaining.visit_steps.Given as goal

abbrev pub invariant-loop-visit : goal.invariant-loop-visit
invariant-loop-visit l = AreVisitSteps l.units (take l.visit-index l.visits) l.steps.items
