use Rattle.std.proofs.Common.{◌≡◌, ◌++◌, drop}
use Rattle.wl_plan.specs.ObjectSegments.{segments_of_objects}
use Rattle.wl_plan.proofs.object_segments.output_segments.Given as goal

abbrev pub invariant-loop-object : goal.invariant-loop-object
invariant-loop-object l = l.segments.items ++ segments_of_objects l.object (drop l.object l.objects) ≡ segments_of_objects 0 l.objects
