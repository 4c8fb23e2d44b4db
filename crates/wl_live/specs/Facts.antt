-- What an object says of its units, whatever names stand for.
use Rattle.std.specs.Prelude.{◌≡◌, ℕ, ◌+◌, ◌<◌, if◌then◌else◌, List, [], ◌∷◌, ◌++◌, map, Option, None, Contains, option_map}
use Rattle.std.specs.Option.{option_to_list}
use Rattle.std.specs.List.{AllZip}
use Rattle.wl_module.specs.Bodies.{Body}
use Rattle.wl_bytes.specs.declared.read_error.ReadError.{ReadError}
use Rattle.wl_linking.specs.Object.{Object}
use Rattle.wl_custom.specs.Symbols.{Symbol, is_undefined}
use Rattle.wl_custom.specs.RelocationTypes.{names_a_type}
use Rattle.wl_custom.specs.declared.relocations.WasmRelocation.{WasmRelocation}
use Rattle.wl_linking.specs.declared.sites.Site.{Site}
use Rattle.wl_ops.specs.Numbers.{HasNumbers}
use Rattle.wl_ops.specs.declared.op.DataIndexImm.{DataIndexImm}
use Rattle.wl_symbols.specs.Units.{counts_of, unit_in, sibling_of}
use Rattle.wl_live.specs.Faults.{HasUnitFault}
use Rattle.wl_live.specs.declared.object_facts.SymbolUse.{SymbolUse}
use Rattle.wl_live.specs.declared.object_facts.SegmentUse.{SegmentUse}
use Rattle.wl_live.specs.declared.object_facts.UnitFault.{UnitFault}
use Rattle.wl_symbols.specs.declared.units.UnitCounts.{UnitCounts}
use Rattle.wl_symbols.specs.declared.units.WasmGcUnit.{WasmGcUnit}
use Rattle.wl_symbols.specs.declared.units.WasmGcUnit.TheVariants.{DefinedFunction, DataSegment}

-- which symbols the relocations in units name, which symbols import slots have, which segments
-- bodies number, and why units can't be kept
pub record Facts : Type 0 where
  pub uses : List SymbolUse
  pub slots : List SymbolUse
  pub segments : List SegmentUse
  pub faults : List UnitFault

-- ---- symbols

-- a relocation in a unit of that kind, if it isn't against a type
abbrev pub use_of : WasmGcUnit → WasmRelocation → Site → List SymbolUse
use_of kind r s =
    if names_a_type r.ty then []
    else record { unit = sibling_of kind s.unit; symbol = r.index } ∷ []

-- the relocations of a section, whose fields lie in units of that kind
abbrev pub section_uses : WasmGcUnit → List WasmRelocation → List Site → List SymbolUse
section_uses kind [] sites = []
section_uses kind (r ∷ relocations) [] = []
section_uses kind (r ∷ relocations) (s ∷ sites) =
    use_of kind r s ++ section_uses kind relocations sites

-- the relocations of an object
abbrev pub uses_of : Object → List SymbolUse
uses_of o =
    section_uses (DefinedFunction 0) o.code_relocations o.code_sites
    ++ section_uses (DataSegment 0) o.data_relocations o.data_sites

-- the import slot of a symbol, if it is undefined
abbrev pub slot_unit : UnitCounts → Symbol → Option WasmGcUnit
slot_unit n s = if is_undefined s then unit_in n s else None

-- the symbol of that number, on its import slot
abbrev pub slot_use : UnitCounts → ℕ → Symbol → List SymbolUse
slot_use n symbol s =
    option_to_list (option_map (λ u. record { unit = u; symbol = symbol }) (slot_unit n s))

-- the import slots of these symbols, of which the first has that number
abbrev pub slot_uses_from : UnitCounts → ℕ → List Symbol → List SymbolUse
slot_uses_from n symbol [] = []
slot_uses_from n symbol (s ∷ symbols) = slot_use n symbol s ++ slot_uses_from n (symbol + 1) symbols

-- the import slots of an object's undefined symbols
abbrev pub slot_uses : Object → List SymbolUse
slot_uses o = slot_uses_from (counts_of o) 0 o.symbols

-- ---- segments

-- the body of that number has these numbers of segments
abbrev pub segment_uses : ℕ → List DataIndexImm → List SegmentUse
segment_uses function numbers =
    map (λ (n : DataIndexImm). record { function = function; segment = n.index }) numbers

-- these are the numbers of segments of the bodies, of which the first has that number
abbrev pub AreSegmentUses : ℕ → List Body → List SegmentUse → Type 0
AreSegmentUses function [] uses = uses ≡ []
AreSegmentUses function (body ∷ bodies) uses =
    (numbers : List DataIndexImm) × (rest : List SegmentUse) × HasNumbers numbers body.bytes
    × AreSegmentUses (function + 1) bodies rest × (uses ≡ segment_uses function numbers ++ rest)

-- those of one more body follow the others
abbrev pub NumbersAdded : ℕ → List ℕ → List SegmentUse → List SegmentUse → Type 0
NumbersAdded function body old new =
    (numbers : List DataIndexImm) × HasNumbers numbers body
    × (new ≡ old ++ segment_uses function numbers)

-- ---- faults

-- the fault of a unit, if it has one
abbrev pub faults_of : WasmGcUnit → Option ReadError → List UnitFault
faults_of unit error = option_to_list (option_map (λ e. record { unit = unit; error = e }) error)

-- each fault is that of its unit, and of each unit that can't be kept there is a fault
pub record AreFaults (o : Object) (faults : List UnitFault) : Type 0 where
  pub only : (f : UnitFault) → Contains faults f → HasUnitFault o f.unit f.error
  pub every : (u : WasmGcUnit) (e : ReadError) → HasUnitFault o u e
      → (f : UnitFault) × Contains faults f × (f.unit ≡ u)

-- the same of the first n bodies alone
pub record FaultsOfBodies (o : Object) (n : ℕ) (faults : List UnitFault) : Type 0 where
  pub only : (f : UnitFault) → Contains faults f → HasUnitFault o f.unit f.error
  pub every : (k : ℕ) (e : ReadError) → k < n → HasUnitFault o (DefinedFunction k) e
      → (f : UnitFault) × Contains faults f × (f.unit ≡ DefinedFunction k)

-- ---- objects

-- the facts are those of the object
pub record AreFacts (o : Object) (facts : Facts) : Type 0 where
  pub uses : facts.uses ≡ uses_of o
  pub slots : facts.slots ≡ slot_uses o
  pub segments : AreSegmentUses 0 o.bodies facts.segments
  pub faults : AreFaults o facts.faults

-- the facts are those of each object
abbrev pub AreAllFacts : List Object → List Facts → Type 0
AreAllFacts objects facts = AllZip AreFacts objects facts
