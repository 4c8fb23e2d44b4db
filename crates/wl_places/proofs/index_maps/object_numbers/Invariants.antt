use Rattle.std.proofs.Common.{◌≡◌, take}
use Rattle.wl_places.specs.IndexSteps.{numbers_among}
use Rattle.wl_places.proofs.index_maps.object_numbers.Given as goal

abbrev pub invariant-loop-place : goal.invariant-loop-place
invariant-loop-place l =
    l.numbers.items ≡ numbers_among (take l.place l.layouts) l.first l.count
