use Rattle.std.proofs.Common.{◌≡◌, map, take}
use Rattle.wl_places.specs.SegmentNumbers.{unless_dead}
use Rattle.wl_places.proofs.segment_numbers.numbers_of_object.Given as goal

abbrev pub invariant-loop-index : goal.invariant-loop-index
invariant-loop-index l = l.numbers.items ≡ map unless_dead (take l.index-index l.indices)
