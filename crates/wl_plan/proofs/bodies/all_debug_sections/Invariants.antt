use Rattle.std.proofs.Common.{◌≡◌, ◌++◌, drop}
use Rattle.wl_plan.specs.Bodies.{object_debug_sections}
use Rattle.wl_plan.proofs.bodies.all_debug_sections.Given as goal

abbrev pub invariant-loop-object : goal.invariant-loop-object
invariant-loop-object l = l.sections.items ++ object_debug_sections l.object (drop l.object l.files) ≡ object_debug_sections 0 l.files
