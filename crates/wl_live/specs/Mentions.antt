-- What makes units refer to others, as a list, and where it is given one after the other.
use Rattle.std.specs.Prelude.{ℕ, ◌+◌, List, [], ◌∷◌, ◌++◌, map, drop}
use Rattle.wl_live.specs.Facts.{Facts}
use Rattle.wl_live.specs.declared.mentions.Cause.{Cause}
use Rattle.wl_live.specs.declared.mentions.Cause.TheVariants.{Relocation, Slot, Number}
use Rattle.wl_live.specs.declared.mentions.Mention.{Mention}
use Rattle.wl_live.specs.declared.mentions.Mentions.{Mentions}
use Rattle.wl_live.specs.declared.mentions.ObjectRest.{ObjectRest}
use Rattle.wl_live.specs.declared.object_facts.SegmentUse.{SegmentUse}
use Rattle.wl_live.specs.declared.object_facts.SymbolUse.{SymbolUse}
use Rattle.wl_symbols.specs.declared.units.LinkUnit.{LinkUnit}
use Rattle.wl_symbols.specs.declared.units.WasmGcUnit.{WasmGcUnit}
use Rattle.wl_symbols.specs.declared.units.WasmGcUnit.TheVariants.{DefinedFunction}

-- ---- one mention

-- the unit that refers to others by this
abbrev pub user_by : Cause → WasmGcUnit
user_by (Relocation used) = used.unit
user_by (Slot used) = used.unit
user_by (Number used) = DefinedFunction used.function

-- the unit that refers to others
abbrev pub referring : Mention → LinkUnit
referring m = record { object = m.object; unit = user_by m.cause }

-- to how many it refers at most
abbrev pub most_references : Cause → ℕ
most_references (Relocation used) = 2
most_references (Slot used) = 1
most_references (Number used) = 1

-- ---- all of them

-- the relocations in units of an object
abbrev pub relocation_mentions : ℕ → List SymbolUse → List Mention
relocation_mentions object uses =
    map (λ (u : SymbolUse). record { object = object; cause = Relocation u }) uses

-- its import slots
abbrev pub slot_mentions : ℕ → List SymbolUse → List Mention
slot_mentions object slots =
    map (λ (u : SymbolUse). record { object = object; cause = Slot u }) slots

-- the numbers of segments in its bodies
abbrev pub number_mentions : ℕ → List SegmentUse → List Mention
number_mentions object segments =
    map (λ (u : SegmentUse). record { object = object; cause = Number u }) segments

-- those of an object
abbrev pub object_mentions : ℕ → Facts → List Mention
object_mentions object facts =
    relocation_mentions object facts.uses
    ++ (slot_mentions object facts.slots ++ number_mentions object facts.segments)

-- those of the objects from that number on
abbrev pub mentions_from : ℕ → List Facts → List Mention
mentions_from object [] = []
mentions_from object (f ∷ facts) = object_mentions object f ++ mentions_from (object + 1) facts

-- those of all objects
abbrev pub all_mentions : List Facts → List Mention
all_mentions facts = mentions_from 0 facts

-- ---- those that are still to come

-- those of an object
abbrev pub object_left : ObjectRest → List Mention
object_left o =
    relocation_mentions o.object o.uses.now
    ++ (slot_mentions o.object o.slots.now ++ number_mentions o.object o.segments.now)

-- those of the object at hand, and of the objects after it
abbrev pub mentions_left : Mentions → List Mention
mentions_left m = object_left m.current ++ mentions_from m.next (drop m.next m.facts.now)
