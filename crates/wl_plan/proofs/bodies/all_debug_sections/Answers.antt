use Rattle.wl_plan.specs.Bodies.{object_debug_sections}
use Rattle.wl_plan.proofs.DebugLaws.{debug_on}
use Rattle.wl_plan.proofs.bodies.all_debug_sections.Goals as goal

pub loop-object-preserved : goal.loop-object-preserved
loop-object-preserved c = rw (c.in_ok-push_debug_sections.ensures, c.debug_inputs.ensures) (debug_on c.args.files.now c.loop-object.object c.index-files-object.result c.loop-object.sections.items (object_debug_sections 0 c.args.files.now) c.loop-object-test.true c.index-files-object.is c.loop-object.invariant)
