use Rattle.std.proofs.Common.{take}
use Rattle.std.specs.List.{AllByRecursion}
use Rattle.wl_data.specs.Layouts.{CanBePlaced}
use Rattle.wl_data.proofs.placeable.all_can_be_placed.Given as goal

abbrev pub invariant-loop-segment : goal.invariant-loop-segment
invariant-loop-segment l = AllByRecursion CanBePlaced (take l.segment-index l.segments)
