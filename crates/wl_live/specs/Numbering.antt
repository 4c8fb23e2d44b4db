-- The marks of functions whose bodies number segments.
use Rattle.std.specs.Prelude.{ℕ, ◌+◌, Bool, true, List, [], ◌∷◌, ◌++◌, map, Option, Some, None, slice_set}
use Rattle.wl_symbols.specs.Units.{unit_number_if}
use Rattle.wl_live.specs.Facts.{Facts}
use Rattle.wl_live.specs.declared.object_facts.SegmentUse.{SegmentUse}
use Rattle.wl_symbols.specs.declared.units.LinkUnit.{LinkUnit}
use Rattle.wl_symbols.specs.declared.units.UnitCounts.{UnitCounts}
use Rattle.wl_symbols.specs.declared.units.WasmGcUnit.TheVariants.{DefinedFunction}

-- the function of an object in whose body the number stands
abbrev pub numbering_unit : ℕ → SegmentUse → LinkUnit
numbering_unit object used = record { object = object; unit = DefinedFunction used.function }

-- the functions of an object whose bodies number segments, once for each number
abbrev pub numbering_units : ℕ → List SegmentUse → List LinkUnit
numbering_units object segments = map (numbering_unit object) segments

-- those of the objects from that number on
abbrev pub numbering_from : ℕ → List Facts → List LinkUnit
numbering_from object [] = []
numbering_from object (f ∷ facts) =
    numbering_units object f.segments ++ numbering_from (object + 1) facts

-- the marks, with that of the number set, if there is one
abbrev pub with_mark : List Bool → Option ℕ → List Bool
with_mark marks None = marks
with_mark marks (Some number) = slice_set marks number true

-- the marks, with that of each of these units set that exists
abbrev pub with_units : List UnitCounts → List Bool → List LinkUnit → List Bool
with_units ns marks [] = marks
with_units ns marks (u ∷ us) = with_units ns (with_mark marks (unit_number_if ns u)) us
