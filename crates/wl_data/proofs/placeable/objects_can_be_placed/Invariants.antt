use Rattle.std.proofs.Common.{take}
use Rattle.std.specs.List.{AllByRecursion}
use Rattle.wl_data.specs.DataPlaces.{AllCanBePlaced}
use Rattle.wl_data.proofs.placeable.objects_can_be_placed.Given as goal

abbrev pub invariant-loop-object : goal.invariant-loop-object
invariant-loop-object l = AllByRecursion AllCanBePlaced (take l.object-index l.objects)
