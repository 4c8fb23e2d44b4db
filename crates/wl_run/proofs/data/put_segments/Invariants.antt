use Rattle.std.proofs.Common.{◌≡◌, ◌++◌, drop, take}
use Rattle.wl_run.specs.Data.{with_segments, kept_of_object}
use Rattle.wl_run.proofs.data.put_segments.Given as goal

abbrev pub invariant-loop-layout : goal.invariant-loop-layout
invariant-loop-layout l = record {
  memory : with_segments l.fixups l.object (drop l.layout-index l.layouts) l.memory.items
      ≡ with_segments l.fixups l.object l.layouts l.fn.memory.items;
  segments : l.segments.items
      ≡ l.fn.segments.items ++ kept_of_object l.fixups l.object (take l.layout-index l.layouts);
}
