-- How many things of each kind an object has, and that what it names is among them (core
-- specification, "Indices"; object file linking, version 2).
use Rattle.std.specs.Prelude.{◌≡◌, ◌⊎◌, ℕ, ◌+◌, ◌-◌, ◌==◌, ◌&&◌, ◌||◌, Bool, true, false, nat_lt, nat_le, if◌then◌else◌, List, length, Option, Some, None}
use Rattle.std.specs.List.{list_all, count_by}
use Rattle.wl_module.specs.declared.imports.ImportEntity.{ImportEntity}
use Rattle.wl_module.specs.declared.imports.ImportEntity.TheVariants as entity
use Rattle.wl_module.specs.declared.imports.ExternalKind.{ExternalKind}
use Rattle.wl_module.specs.declared.imports.ExternalKind.TheVariants.{Func, Table, Memory, Global}
use Rattle.wl_bytes.specs.declared.read_error.ReadError.{ReadError}
use Rattle.wl_bytes.specs.declared.read_error.ReadError.TheVariants.{Malformed}
use Rattle.wl_bytes.specs.declared.read_error.Why.TheVariants as why
use Rattle.wl_module.specs.Imports.{Imported}
use Rattle.wl_module.specs.Exports.{Exported}
use Rattle.wl_custom.specs.RelocationTypes.{names_a_type}
use Rattle.wl_custom.specs.Symbols.{Symbol, is_undefined, is_absolute}
use Rattle.wl_custom.specs.declared.infos.WasmInitFunc.{WasmInitFunc}
use Rattle.wl_linking.specs.Object.{Object}
use Rattle.wl_custom.specs.declared.relocations.WasmRelocation.{WasmRelocation}
use Rattle.wl_linking.specs.declared.spaces.Counts.{Counts}
use Rattle.wl_custom.specs.declared.symbols.WasmSymbolKind.{WasmSymbolKind}
use Rattle.wl_custom.specs.declared.symbols.WasmSymbolKind.TheVariants as symbol

-- ---- how many there are

-- what is imported is of that kind
abbrev pub is_of_kind : ExternalKind → ImportEntity → Bool
is_of_kind Func (entity.Func n) = true
is_of_kind Func (entity.Table t) = false
is_of_kind Func (entity.Memory m) = false
is_of_kind Func (entity.Global g) = false
is_of_kind Table (entity.Func n) = false
is_of_kind Table (entity.Table t) = true
is_of_kind Table (entity.Memory m) = false
is_of_kind Table (entity.Global g) = false
is_of_kind Memory (entity.Func n) = false
is_of_kind Memory (entity.Table t) = false
is_of_kind Memory (entity.Memory m) = true
is_of_kind Memory (entity.Global g) = false
is_of_kind Global (entity.Func n) = false
is_of_kind Global (entity.Table t) = false
is_of_kind Global (entity.Memory m) = false
is_of_kind Global (entity.Global g) = true

-- how many imports of that kind there are
abbrev pub count_imports : ExternalKind → List Imported → ℕ
count_imports kind imports = count_by (λ (i : Imported). is_of_kind kind i.entity) imports

-- how many things of each kind there are
abbrev pub spaces_of : Object → Counts
spaces_of o = record {
  types = length o.types;
  imported_functions = count_imports Func o.imports;
  functions = length o.functions;
  imported_tables = count_imports Table o.imports;
  imported_memories = count_imports Memory o.imports;
  memories = length o.memories;
  imported_globals = count_imports Global o.imports;
  globals = length o.globals;
  segments = length o.segments;
  symbols = length o.symbols;
}

-- ---- what is named exists

-- an imported function has one of the types
abbrev pub import_exists : Counts → Imported → Bool
import_exists spaces i = elim i.entity [
  | entity.Func n ↦ nat_lt n spaces.types
  | entity.Table t ↦ true
  | entity.Memory m ↦ true
  | entity.Global g ↦ true
]

-- how many things of that kind are imported or defined: no table is defined
abbrev pub space_of : Counts → ExternalKind → ℕ
space_of spaces Func = spaces.imported_functions + spaces.functions
space_of spaces Table = spaces.imported_tables + 0
space_of spaces Memory = spaces.imported_memories + spaces.memories
space_of spaces Global = spaces.imported_globals + spaces.globals

-- an export leads to one of them
abbrev pub export_exists : Counts → Exported → Bool
export_exists spaces x = nat_lt x.index (space_of spaces x.kind)

-- an active segment goes into one of the memories
abbrev pub memory_exists : Counts → Option ℕ → Bool
memory_exists spaces None = true
memory_exists spaces (Some memory) = nat_lt memory (spaces.imported_memories + spaces.memories)

-- the number of an undefined symbol is that of an import, and else of a definition, which come
-- after the imports
abbrev pub number_exists : Bool → ℕ → ℕ → ℕ → Bool
number_exists undefined imported defined index =
    if undefined then nat_lt index imported
    else nat_le imported index && nat_lt (index - imported) defined

-- what a symbol of that kind stands for exists: that of a section isn't looked at, and no table is
-- defined
abbrev pub thing_exists : Counts → WasmSymbolKind → Bool → ℕ → Bool
thing_exists spaces symbol.Func undefined index =
    number_exists undefined spaces.imported_functions spaces.functions index
thing_exists spaces symbol.Global undefined index =
    number_exists undefined spaces.imported_globals spaces.globals index
thing_exists spaces symbol.Table undefined index =
    number_exists undefined spaces.imported_tables 0 index
thing_exists spaces symbol.Data undefined index = undefined || nat_lt index spaces.segments
thing_exists spaces symbol.Section undefined index = true
thing_exists spaces symbol.Event undefined index = true

-- what a symbol stands for exists; data at an absolute address lies in no segment, and its index
-- names nothing
abbrev pub symbol_exists : Counts → Symbol → Bool
symbol_exists spaces s = is_absolute s || thing_exists spaces s.kind (is_undefined s) s.index

-- a function that runs at the start has one of the symbols
abbrev pub init_exists : Counts → WasmInitFunc → Bool
init_exists spaces f = nat_lt f.symbol_index spaces.symbols

-- a relocation names one of the types or of the symbols
abbrev pub relocation_exists : Counts → WasmRelocation → Bool
relocation_exists spaces r =
    nat_lt r.index (if names_a_type r.ty then spaces.types else spaces.symbols)

-- a function's type is one of those there are
abbrev pub type_exists : Counts → ℕ → Bool
type_exists spaces t = nat_lt t spaces.types

-- where there is a data count, it is how many segments there are
abbrev pub counts_segments : Counts → ℕ → Bool
counts_segments spaces count = count == spaces.segments

-- there are as many bodies as functions, the data count is that of the segments, and what is named
-- exists
pub record NamesExist (o : Object) : Type 0 where
  pub bodies : length o.bodies ≡ length o.functions
  pub data_counts : list_all (counts_segments (spaces_of o)) o.data_counts ≡ true
  pub imports : list_all (import_exists (spaces_of o)) o.imports ≡ true
  pub functions : list_all (type_exists (spaces_of o)) o.functions ≡ true
  pub exports : list_all (export_exists (spaces_of o)) o.exports ≡ true
  pub segment_memories : list_all (memory_exists (spaces_of o)) o.segment_memories ≡ true
  pub symbols : list_all (symbol_exists (spaces_of o)) o.symbols ≡ true
  pub init_funcs : list_all (init_exists (spaces_of o)) o.init_funcs ≡ true
  pub code : list_all (relocation_exists (spaces_of o)) o.code_relocations ≡ true
  pub data_ : list_all (relocation_exists (spaces_of o)) o.data_relocations ≡ true

-- there are as many bodies as functions, and as many segments as the data count says, where there
-- is one
abbrev pub counts_hold : Counts → Object → Bool
counts_hold spaces o =
    (length o.bodies == spaces.functions) && list_all (counts_segments spaces) o.data_counts

-- all that the core sections name exists
abbrev pub core_names_exist : Counts → Object → Bool
core_names_exist spaces o =
    list_all (import_exists spaces) o.imports
    && list_all (type_exists spaces) o.functions
    && list_all (export_exists spaces) o.exports
    && list_all (memory_exists spaces) o.segment_memories

-- all that the linking section and the relocations name exists
abbrev pub linked_names_exist : Counts → Object → Bool
linked_names_exist spaces o =
    list_all (symbol_exists spaces) o.symbols
    && list_all (init_exists spaces) o.init_funcs
    && list_all (relocation_exists spaces) o.code_relocations
    && list_all (relocation_exists spaces) o.data_relocations

-- a count that doesn't hold, or a name of nothing
abbrev pub NamesFault : Object → ReadError → Type 0
NamesFault o (Malformed why.Count) = counts_hold (spaces_of o) o ≡ false
NamesFault o (Malformed why.BadIndex) =
    (core_names_exist (spaces_of o) o ≡ false) ⊎ (linked_names_exist (spaces_of o) o ≡ false)
NamesFault o _ = ⊥
