use Rattle.std.proofs.Common.{◌≡◌, ◌++◌, drop}
use Rattle.wl_lists.specs.Rows.{by_number}
use Rattle.wl_run.specs.Data.{with_objects, kept_of_object, kept_segments}
use Rattle.wl_run.proofs.data.first_data.Given as goal

abbrev pub invariant-loop-object : goal.invariant-loop-object
invariant-loop-object l = record {
  memory : with_objects l.fixups l.object (drop l.object l.objects) l.memory.items
      ≡ with_objects l.fixups 0 l.objects l.initial.memory.items;
  segments : l.segments.items ++ by_number (kept_of_object l.fixups) l.object (drop l.object l.objects)
      ≡ kept_segments l.fixups l.objects;
}
