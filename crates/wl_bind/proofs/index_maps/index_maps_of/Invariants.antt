use Rattle.std.proofs.Common.{take}
use Rattle.wl_bind.specs.IndexMaps.{IsIndexMap}
use Rattle.wl_bind.specs.Parts.{AreRows}
use Rattle.wl_bind.proofs.index_maps.index_maps_of.Given as goal

abbrev pub invariant-loop-object : goal.invariant-loop-object
invariant-loop-object l =
    AreRows (IsIndexMap l.numbering.input.now) 0
    (take l.object l.numbering.input.now.link.objects) l.maps
