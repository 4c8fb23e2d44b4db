-- Import slots: the functions and globals that an object imports, each by its number among the
-- imports of its kind, and the undefined symbols that stand for them (object file linking, version
-- 2, "Symbol Table Subsection").
use Rattle.std.specs.Prelude.{ℕ, ◌+◌, ◌==◌, ◌&&◌, Bool, false, not, if◌then◌else◌, List, [], ◌∷◌, ◌++◌, length, slice_get}
use Rattle.std.specs.List.{filter, list_all}
use Rattle.std.specs.Option.{option_map_or}
use Rattle.wl_module.specs.Imports.{Imported}
use Rattle.wl_module.specs.declared.imports.ImportEntity.{ImportEntity}
use Rattle.wl_module.specs.declared.imports.ExternalKind.TheVariants as external
use Rattle.wl_linking.specs.Object.{Object}
use Rattle.wl_linking.specs.Spaces.{is_of_kind}
use Rattle.wl_custom.specs.Symbols.{Symbol, is_undefined, is_weak}
use Rattle.wl_custom.specs.declared.symbols.WasmSymbolKind.{WasmSymbolKind}
use Rattle.wl_custom.specs.declared.symbols.WasmSymbolKind.TheVariants.{Func, Data, Global, Section, Event, Table}
use Rattle.wl_symbols.specs.Entries.{symbol_in}
use Rattle.wl_symbols.specs.LinkerNames.{is_imported_as}

-- an import slot: of which object and of which kind, its number there, what is imported, and the
-- numbers of the undefined symbols on it
pub record ImportSlot : Type 0 where
  pub object : ℕ
  pub kind : WasmSymbolKind
  pub number : ℕ
  pub item : Imported
  pub symbols : List ℕ

-- ---- the imports of a kind

-- what is imported has a slot of that kind: functions and globals have, tables and memories haven't
abbrev pub is_slot_of : WasmSymbolKind → ImportEntity → Bool
is_slot_of Func e = is_of_kind external.Func e
is_slot_of Data e = false
is_slot_of Global e = is_of_kind external.Global e
is_slot_of Section e = false
is_slot_of Event e = false
is_slot_of Table e = false

-- the imports with slots of that kind, in order
abbrev pub slot_imports : WasmSymbolKind → List Imported → List Imported
slot_imports kind imports = filter (λ (i : Imported). is_slot_of kind i.entity) imports

-- ---- the symbols on a slot

-- the numbers of those that pass a test, where the first has that number
abbrev pub numbers_where : {X : Type 0} → (X → Bool) → ℕ → List X → List ℕ
numbers_where test n [] = []
numbers_where test n (x ∷ xs) = (if test x then n ∷ [] else []) ++ numbers_where test (n + 1) xs

-- the symbol stands for the import of that kind and number: it is undefined, of that kind, and has
-- that number
abbrev pub is_on : WasmSymbolKind → ℕ → Symbol → Bool
is_on kind number s = is_undefined s && is_imported_as kind s.kind && (s.index == number)

-- the numbers of the undefined symbols on the slot of that kind and number, in order
abbrev pub symbols_on : WasmSymbolKind → ℕ → List Symbol → List ℕ
symbols_on kind number symbols = numbers_where (is_on kind number) 0 symbols

-- ---- the slots of an object

-- the slot of that kind and number of the object
abbrev pub slot_at : ℕ → WasmSymbolKind → List Symbol → ℕ → Imported → ImportSlot
slot_at object kind symbols number i = record {
  object = object;
  kind = kind;
  number = number;
  item = i;
  symbols = symbols_on kind number symbols;
}

-- the slots of the object that these imports of that kind have, the first of which has that number
abbrev pub numbered_slots : ℕ → WasmSymbolKind → List Symbol → ℕ → List Imported → List ImportSlot
numbered_slots object kind symbols number [] = []
numbered_slots object kind symbols number (i ∷ imports) =
    slot_at object kind symbols number i ∷ numbered_slots object kind symbols (number + 1) imports

-- the slots of that kind of an object, under its number
abbrev pub object_slots : ℕ → WasmSymbolKind → Object → List ImportSlot
object_slots object kind o = numbered_slots object kind o.symbols 0 (slot_imports kind o.imports)

-- the slots of that kind of the object of that number; none where there is no such object
abbrev pub import_slots : List Object → ℕ → WasmSymbolKind → List ImportSlot
import_slots objects object kind =
    option_map_or (object_slots object kind) (slice_get objects object) []

-- ---- facts of a slot

-- a symbol stands for it
abbrev pub has_symbols : ImportSlot → Bool
has_symbols t = not (length t.symbols == 0)

-- all symbols that stand for it are weak
abbrev pub are_symbols_weak : List Object → ImportSlot → Bool
are_symbols_weak objects t =
    list_all (λ k. option_map_or is_weak (symbol_in objects t.object k) false) t.symbols
