-- The names of imports, which symbols refer to by slots: numbers among the imports of a kind
-- (object file linking, version 2, "Symbol Table Subsection").
use Rattle.std.specs.Prelude.{◌≡◌, ◌≢◌, ◌<◌, ℕ, ◌&&◌, Bool, true, false, not, if◌then◌else◌, List, length, map, Option, Some, None, slice_get}
use Rattle.std.specs.List.{filter}
use Rattle.wl_module.specs.declared.imports.ExternalKind.{ExternalKind}
use Rattle.wl_bytes.specs.declared.read_error.ReadError.{ReadError}
use Rattle.wl_bytes.specs.declared.read_error.ReadError.TheVariants.{Malformed}
use Rattle.wl_bytes.specs.declared.read_error.Why.TheVariants.{SlotNames}
use Rattle.wl_module.specs.Imports.{PlacedImported}
use Rattle.wl_linking.specs.Spaces.{is_of_kind}
use Rattle.wl_custom.specs.Symbols.{Symbol, is_undefined, has_name, with_name, range_of}
use Rattle.wl_linking.specs.declared.spaces.Counts.{Counts}
use Rattle.wl_custom.specs.declared.symbols.WasmSymbolKind.{WasmSymbolKind}
use Rattle.wl_custom.specs.declared.symbols.WasmSymbolKind.TheVariants.{Func, Data, Global, Section, Event, Table}

-- ---- the field names of imports

-- the field name of an import, and where it stands in the object
pub record Slot : Type 0 where
  pub name : List ℕ
  pub range : ℕ × ℕ

-- the field name of an import, where so many bytes of the object lie before its section's payload
abbrev pub slot_of : ℕ → PlacedImported → Slot
slot_of base i =
    record { name = i.import.name; range = range_of base i.name_offset (length i.import.name) }

-- the field names of the imports of a kind, in order
abbrev pub slots_of : ExternalKind → ℕ → List PlacedImported → List Slot
slots_of kind base imports =
    map (slot_of base) (filter (λ (i : PlacedImported). is_of_kind kind i.import.entity) imports)

-- ---- symbols that take them

-- the same symbol with the name of a slot, if there is one
abbrev pub with_slot : Symbol → Option Slot → Symbol
with_slot s None = s
with_slot s (Some slot) = with_name s slot.name slot.range

-- the same symbol with the name of its import: functions and globals take it
abbrev pub with_name_of : List Slot → List Slot → WasmSymbolKind → Symbol → Symbol
with_name_of functions globals Func s = with_slot s (slice_get functions s.index)
with_name_of functions globals Data s = s
with_name_of functions globals Global s = with_slot s (slice_get globals s.index)
with_name_of functions globals Section s = s
with_name_of functions globals Event s = s
with_name_of functions globals Table s = s

-- undefined symbols without a name take that of their import
abbrev pub with_import_name : List Slot → List Slot → Symbol → Symbol
with_import_name functions globals s =
    if is_undefined s && not (has_name s) then with_name_of functions globals s.kind s else s

-- ---- one name for each import

-- a symbol of that kind has a name to compare: those of functions and globals took that of their
-- import, even an empty one
abbrev pub has_claim : WasmSymbolKind → WasmSymbolKind → Symbol → Bool
has_claim Func Func s = true
has_claim Global Global s = true
has_claim Table Table s = has_name s
has_claim _ _ s = false

-- an undefined symbol of that kind, with a name to compare
abbrev pub claims : WasmSymbolKind → Symbol → Bool
claims kind s = is_undefined s && has_claim kind s.kind s

-- how many imports of that kind there are; symbols of the other kinds stand for none
abbrev pub imported_of : Counts → WasmSymbolKind → ℕ
imported_of spaces Func = spaces.imported_functions
imported_of spaces Data = 0
imported_of spaces Global = spaces.imported_globals
imported_of spaces Section = 0
imported_of spaces Event = 0
imported_of spaces Table = spaces.imported_tables

-- two symbols that stand for one of so many imports, with names to compare
pub record SharesSlot (kind : WasmSymbolKind) (count : ℕ) (s t : Symbol) : Type 0 where
  pub one : claims kind s ≡ true
  pub other : claims kind t ≡ true
  pub slot : s.index ≡ t.index
  pub exists : s.index < count

-- the symbols of each of so many imports of that kind have one name
abbrev pub HasOneName : WasmSymbolKind → ℕ → List Symbol → Type 0
HasOneName kind count symbols =
    (i j : ℕ) (s t : Symbol) → slice_get symbols i ≡ Some s → slice_get symbols j ≡ Some t
    → SharesSlot kind count s t → s.name ≡ t.name

-- two symbols of one of so many imports of that kind have different names
pub record HasTwoNames (kind : WasmSymbolKind) (count : ℕ) (symbols : List Symbol) : Type 0 where
  pub first : ℕ
  pub second : ℕ
  pub one : Symbol
  pub other : Symbol
  pub one_is : slice_get symbols first ≡ Some one
  pub other_is : slice_get symbols second ≡ Some other
  pub shared : SharesSlot kind count one other
  pub differ : one.name ≢ other.name

-- each import has one name
pub record AgreeOnNames (spaces : Counts) (symbols : List Symbol) : Type 0 where
  pub functions : HasOneName Func spaces.imported_functions symbols
  pub globals : HasOneName Global spaces.imported_globals symbols
  pub tables : HasOneName Table spaces.imported_tables symbols

-- some import has two
abbrev pub SlotFault : Counts → List Symbol → ReadError → Type 0
SlotFault spaces symbols e =
    (e ≡ Malformed SlotNames)
    × ((kind : WasmSymbolKind) × HasTwoNames kind (imported_of spaces kind) symbols)
