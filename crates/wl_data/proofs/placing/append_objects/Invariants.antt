use Rattle.std.proofs.Common.{take, length, ◌≡◌}
use Rattle.wl_data.specs.DataPlaces.{AreObjectsLaid, GrowByObject}
use Rattle.wl_data.proofs.placing.append_objects.Given as goal

abbrev pub invariant-loop-index : goal.invariant-loop-index
invariant-loop-index l = record {
  laid : GrowByObject (AreObjectsLaid l.pass (take l.index l.objects) l.fn.frontier l.frontier) l.initial.layouts.items l.layouts.items;
  count : length l.layouts.items ≡ length l.objects;
}
