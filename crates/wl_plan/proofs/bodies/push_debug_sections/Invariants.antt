use Rattle.std.proofs.Common.{◌≡◌, ◌++◌, drop, map}
use Rattle.wl_plan.specs.BodySteps.{debug_in}
use Rattle.wl_plan.proofs.bodies.push_debug_sections.Given as goal

abbrev pub invariant-loop-section : goal.invariant-loop-section
invariant-loop-section l = l.sections.items ++ map (debug_in l.object) (drop l.section-index l.more) ≡ l.initial.sections.items ++ map (debug_in l.object) l.more
