use Rattle.std.proofs.Common.{◌≡◌, ◌++◌, drop, map}
use Rattle.wl_plan.specs.ObjectSegments.{of_object}
use Rattle.wl_plan.proofs.object_segments.push_object_segments.Given as goal

abbrev pub invariant-loop-layout : goal.invariant-loop-layout
invariant-loop-layout l = l.segments.items ++ map (of_object l.object) (drop l.layout-index l.layouts) ≡ l.initial.segments.items ++ map (of_object l.object) l.layouts
