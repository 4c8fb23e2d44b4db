-- The field name of each import stands at its range of the object's bytes, and so do the names that symbols take from there.
use Rattle.std.proofs.Common.{◌≡◌, ℕ, zero, suc, Bool, true, false, cond, List, [], ◌∷◌, ◌&&◌, length, map, not, Option, Some, None, slice_get, refl, sym, ap, subst, ◌∙◌}
use Rattle.std.specs.List.{AllByRecursion, filter}
use Rattle.wl_module.specs.Imports.{PlacedImported}
use Rattle.wl_module.specs.Places.{StandsAt, PlacedImportStands}
use Rattle.wl_module.proofs.PlaceLaws.{placed_imports_stand}
use Rattle.wl_module.proofs.SectionLaws.{module_stands}
use Rattle.wl_module.specs.Sections.{Section, IsModule, SectionStands}
use Rattle.wl_module.specs.declared.imports.ExternalKind.{ExternalKind}
use Rattle.wl_module.specs.declared.imports.ExternalKind.TheVariants.{Func as FuncImport, Global as GlobalImport}
use Rattle.wl_custom.specs.Symbols.{Symbol, is_undefined, has_name, range_of}
use Rattle.wl_linking.specs.Spaces.{is_of_kind}
use Rattle.wl_linking.specs.Slots.{Slot, slot_of, slots_of, with_slot, with_name_of, with_import_name}
use Rattle.wl_linking.specs.Targets.{bytes_between}
use Rattle.wl_linking.specs.Parts.{no_parts}
use Rattle.wl_linking.specs.Sections.{base_of, AreSound}
use Rattle.wl_linking.specs.Object.{Object}
use Rattle.wl_linking.specs.SlotsReading.{AreNamedByRange}
use Rattle.wl_linking.specs.Fitting.{IsObject, NameStands, named_symbols}
use Rattle.wl_linking.specs.declared.parts.Parts.{Parts}
use Rattle.wl_linking.specs.declared.section.SectionItems.TheVariants.{Imports}
use Rattle.wl_custom.specs.declared.symbols.WasmSymbolKind.{WasmSymbolKind}
use Rattle.wl_custom.specs.declared.symbols.WasmSymbolKind.TheVariants.{Func, Data, Global, Section as SectionSymbol, Event, Table}
use Rattle.wl_linking.proofs.HeldLaws.{HaveInEach, all_held, all_follow}
use Rattle.wl_linking.proofs.NameLaws.{Stands, SymbolStands, outer_stands, name_stands, symbols_stand}

-- ---- the imports of a section

-- the field name of an import stands at its range of the bytes
abbrev InObject : List ℕ → ℕ → PlacedImported → Type 0
InObject bytes base i = Stands bytes 0 i.import.name (range_of base i.name_offset (length i.import.name))

abbrev SlotStands : List ℕ → Slot → Type 0
SlotStands bytes slot = Stands bytes 0 slot.name slot.range

import_stands : (bytes payload : List ℕ) (base : ℕ) (i : PlacedImported) → StandsAt bytes payload base → PlacedImportStands payload i → InObject bytes base i
import_stands bytes payload base i there h = outer_stands bytes payload i.import.name base (range_of base i.name_offset (length i.import.name)) there (record { at = i.name_offset; there = h.name; range_is = refl })

imports_stand : (bytes : List ℕ) (s : Section) (imports : List PlacedImported) (base : ℕ) → SectionStands bytes s → base ≡ base_of s → AllByRecursion (PlacedImportStands s.payload) imports → AllByRecursion (InObject bytes base) imports
imports_stand bytes s imports base there is h =
    subst (λ (n : ℕ). AllByRecursion (InObject bytes n) imports) (sym is) (all_follow (PlacedImportStands s.payload) (InObject bytes (base_of s)) imports (λ i stands. import_stands bytes s.payload (base_of s) i there.payload.0 stands) h)

-- ---- symbols that take these names

slots_stand : (bytes : List ℕ) (kind : ExternalKind) (base : ℕ) (xs : List PlacedImported) → AllByRecursion (InObject bytes base) xs → AllByRecursion (SlotStands bytes) (slots_of kind base xs)
slots_stand bytes kind base [] h = tt
slots_stand bytes kind base (x ∷ xs) h = by_kind (is_of_kind kind x.import.entity) (slots_stand bytes kind base xs h.1)
  where
    by_kind : (b : Bool) → AllByRecursion (SlotStands bytes) (slots_of kind base xs) → AllByRecursion (SlotStands bytes) (map (slot_of base) (cond b (x ∷ filter (λ (i : PlacedImported). is_of_kind kind i.import.entity) xs) (filter (λ (i : PlacedImported). is_of_kind kind i.import.entity) xs)))
    by_kind true rest = (h.0, rest)
    by_kind false rest = rest

slot_at : (bytes : List ℕ) (slots : List Slot) (k : ℕ) (slot : Slot) → AllByRecursion (SlotStands bytes) slots → slice_get slots k ≡ Some slot → SlotStands bytes slot
slot_at bytes [] k slot h is = absurd cc
slot_at bytes (x ∷ slots) zero slot h is = let same : x ≡ slot = cc in rw (← same) h.0
slot_at bytes (x ∷ slots) (suc k) slot h is = slot_at bytes slots k slot h.1 is

slot_taken : (bytes : List ℕ) (slots : List Slot) (s : Symbol) (o : Option Slot) → slice_get slots s.index ≡ o → AllByRecursion (SlotStands bytes) slots → SymbolStands bytes 0 s → SymbolStands bytes 0 (with_slot s o)
slot_taken bytes slots s None is h there = there
slot_taken bytes slots s (Some slot) is h there = slot_at bytes slots s.index slot h is

name_taken : (bytes : List ℕ) (functions globals : List Slot) (k : WasmSymbolKind) (s : Symbol) → AllByRecursion (SlotStands bytes) functions → AllByRecursion (SlotStands bytes) globals → SymbolStands bytes 0 s → SymbolStands bytes 0 (with_name_of functions globals k s)
name_taken bytes functions globals Func s f g there = slot_taken bytes functions s (slice_get functions s.index) refl f there
name_taken bytes functions globals Data s f g there = there
name_taken bytes functions globals Global s f g there = slot_taken bytes globals s (slice_get globals s.index) refl g there
name_taken bytes functions globals SectionSymbol s f g there = there
name_taken bytes functions globals Event s f g there = there
name_taken bytes functions globals Table s f g there = there

symbol_named : (bytes : List ℕ) (functions globals : List Slot) (s : Symbol) → AllByRecursion (SlotStands bytes) functions → AllByRecursion (SlotStands bytes) globals → SymbolStands bytes 0 s → SymbolStands bytes 0 (with_import_name functions globals s)
symbol_named bytes functions globals s f g there = by_test (is_undefined s && not (has_name s))
  where
    by_test : (b : Bool) → SymbolStands bytes 0 (cond b (with_name_of functions globals s.kind s) s)
    by_test true = name_taken bytes functions globals s.kind s f g there
    by_test false = there

symbols_named : (bytes : List ℕ) (functions globals : List Slot) (symbols : List Symbol) → AllByRecursion (SlotStands bytes) functions → AllByRecursion (SlotStands bytes) globals → AllByRecursion (SymbolStands bytes 0) symbols → AllByRecursion (NameStands bytes) (map (with_import_name functions globals) symbols)
symbols_named bytes functions globals [] f g h = tt
symbols_named bytes functions globals (s ∷ symbols) f g h =
    let s' = with_import_name functions globals s in
    (name_stands bytes s'.name s'.name_range (symbol_named bytes functions globals s f g h.0), symbols_named bytes functions globals symbols f g h.1)

-- ---- the names of all sections

function_names_in_each : (bytes : List ℕ) → HaveInEach (λ p. p.function_names) (SlotStands bytes) bytes
function_names_in_each bytes k s (Imports imports base) there h = slots_stand bytes FuncImport base imports (imports_stand bytes s imports base there h.1 (placed_imports_stand imports s.payload h.2))
function_names_in_each bytes k s _ there h = tt

global_names_in_each : (bytes : List ℕ) → HaveInEach (λ p. p.global_names) (SlotStands bytes) bytes
global_names_in_each bytes k s (Imports imports base) there h = slots_stand bytes GlobalImport base imports (imports_stand bytes s imports base there h.1 (placed_imports_stand imports s.payload h.2))
global_names_in_each bytes k s _ there h = tt

-- the symbols of sound sections
pub parts_names_stand : (bytes : List ℕ) (sections : List Section) (parts : Parts) → IsModule sections bytes → AreSound sections no_parts sections parts → AllByRecursion (NameStands bytes) (named_symbols parts)
parts_names_stand bytes sections parts framed sound =
    let placed = module_stands bytes sections framed in
    symbols_named bytes parts.function_names parts.global_names parts.symbols
    (all_held (λ p. p.function_names) (SlotStands bytes) bytes (λ a b. refl) (function_names_in_each bytes) sections no_parts sections parts placed sound tt)
    (all_held (λ p. p.global_names) (SlotStands bytes) bytes (λ a b. refl) (global_names_in_each bytes) sections no_parts sections parts placed sound tt)
    (symbols_stand bytes sections parts framed sound)

pub object_names_stand : (bytes : List ℕ) (o : Object) → IsObject o bytes → AllByRecursion (NameStands bytes) o.symbols
object_names_stand bytes o h = subst (λ (x : Object). AllByRecursion (NameStands bytes) x.symbols) (sym h.items.items) (parts_names_stand bytes h.sections h.parts h.framed h.sound)

-- ---- names by their ranges

-- what stands at one range of the bytes is one name
pub named_by_range : (bytes : List ℕ) (symbols : List Symbol) → AllByRecursion (NameStands bytes) symbols → AreNamedByRange symbols
named_by_range bytes symbols h i j s t here there same =
    let one = stands_at symbols i s h here in
    let other = stands_at symbols j t h there in
    sym one ∙ ap (bytes_between bytes) same ∙ other
  where
    stands_at : (xs : List Symbol) (k : ℕ) (x : Symbol) → AllByRecursion (NameStands bytes) xs → slice_get xs k ≡ Some x → NameStands bytes x
    stands_at [] k x h is = absurd cc
    stands_at (y ∷ xs) zero x h is = let same : y ≡ x = cc in subst (NameStands bytes) same h.0
    stands_at (y ∷ xs) (suc k) x h is = stands_at xs k x h.1 is
