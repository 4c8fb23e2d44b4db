use Rattle.std.proofs.Common.{length}
use Rattle.wl_places.proofs.IndexLaws.{AreDone}
use Rattle.wl_places.proofs.index_maps.whole_maps.Given as goal

abbrev pub invariant-loop-map : goal.invariant-loop-map
invariant-loop-map l =
    ((goal.iterator-loop-map).can_next l.map-iterator)
    × ((goal.iterator-loop-map).is_finite l.map-iterator)
    × AreDone l.book (length l.yielded) l.first l.whole.items
