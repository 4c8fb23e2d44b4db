-- Kept relocations that are still to come, where they are given one after the other.
use Rattle.std.specs.Prelude.{List, ◌++◌, drop}
use Rattle.wl_symbols.specs.Relocations.{relocated_in, relocations_from}
use Rattle.wl_symbols.specs.declared.relocated.KeptRelocations.{KeptRelocations}
use Rattle.wl_symbols.specs.declared.relocated.ObjectRest.{ObjectRest}
use Rattle.wl_symbols.specs.declared.relocated.Relocated.{Relocated}
use Rattle.wl_symbols.specs.declared.relocated.SectionRest.{SectionRest}

-- those of a section
abbrev pub section_left : SectionRest → List Relocated
section_left s =
    relocated_in s.units.live.now s.units.place s.units.object s.listed.now s.sites.now

-- those of an object
abbrev pub object_left : ObjectRest → List Relocated
object_left o = section_left o.code ++ section_left o.data

-- those of the object at hand, and of the objects after it
abbrev pub relocations_left : KeptRelocations → List Relocated
relocations_left k =
    object_left k.current ++ relocations_from k.live.now k.next (drop k.next k.files.now)
