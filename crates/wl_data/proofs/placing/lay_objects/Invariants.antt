use Rattle.std.proofs.Common.{take}
use Rattle.wl_data.specs.DataPlaces.{AreObjectsLaid}
use Rattle.wl_data.proofs.placing.lay_objects.Given as goal

abbrev pub invariant-loop-object : goal.invariant-loop-object
invariant-loop-object l = AreObjectsLaid l.pass (take l.object-index l.objects) l.fn.frontier l.frontier l.layouts.items
