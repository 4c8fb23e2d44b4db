use Rattle.std.proofs.Common.{◌≡◌, map, take}
use Rattle.wl_places.proofs.NumberLaws.{numbers_of}
use Rattle.wl_places.proofs.segment_numbers.all_segment_numbers.Given as goal

abbrev pub invariant-loop-map : goal.invariant-loop-map
invariant-loop-map l = l.numbers.items ≡ map numbers_of (take l.map-index l.maps)
