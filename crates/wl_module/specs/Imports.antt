-- The import section (core specification, "Import Section").
use Rattle.std.specs.Prelude.{ℕ, ◌==◌, Bool, true, false, if◌then◌else◌, List, [], ◌∷◌, map, Option, Some, None, Result}
use Rattle.wl_bytes.specs.Cursor.{Cursor}
use Rattle.wl_bytes.specs.Leb.{IsU32}
use Rattle.wl_bytes.specs.Items.{IsName}
use Rattle.wl_bytes.specs.Grammar.{Then, ThenFault, then_at, map_at}
use Rattle.wl_module.specs.declared.imports.ExternalKind.{ExternalKind}
use Rattle.wl_module.specs.declared.imports.ExternalKind.TheVariants.{Func, Table, Memory, Global}
use Rattle.wl_module.specs.declared.imports.ImportEntity.{ImportEntity}
use Rattle.wl_module.specs.declared.imports.ImportEntity.TheVariants.{Func as AFunction, Table as ATable, Memory as AMemory, Global as AGlobal}
use Rattle.wl_module.specs.declared.globals.GlobalType.{GlobalType}
use Rattle.wl_bytes.specs.declared.read_error.Why.TheVariants.{BadByte}
use Rattle.wl_bytes.specs.declared.read_error.Form.TheVariants.{Tag, ManyMemories}
use Rattle.wl_bytes.specs.declared.read_error.ReadError.{ReadError}
use Rattle.wl_bytes.specs.declared.read_error.ReadError.TheVariants.{Malformed, Unsupported}
use Rattle.wl_bytes.specs.Lists.{NumberFault, number_at, WordFault, word_at, IsCoded, CodedFault, coded_at, Whole, WholeFault, whole_of, SeenAs, seen_of}
use Rattle.wl_bytes.specs.Words.{IsPlacedName, placed_name_at}
use Rattle.wl_bytes.specs.Chains.{Once, ListedOnce, ListedOnceFault, list_once_at}
use Rattle.wl_bytes.specs.Checks.{Seen}
use Rattle.wl_module.specs.Limits.{IsTableType, TableTypeFault, table_type_at, IsMemoryType, MemoryTypeFault, memory_type_at}
use Rattle.wl_module.specs.Globals.{IsGlobalType, GlobalTypeFault, global_type_at}

-- ---- kinds

-- the byte of each kind of thing that is imported or exported
abbrev pub kind_code : ExternalKind → ℕ
kind_code Func = 0
kind_code Table = 1
kind_code Memory = 2
kind_code Global = 3

-- another byte: tags are known and not taken
abbrev pub kind_error : ℕ → ReadError
kind_error b = if b == 4 then Unsupported Tag else Malformed BadByte

-- the byte of that kind
abbrev pub IsExternalKind : ℕ → ExternalKind → List ℕ → Type 0
IsExternalKind = IsCoded kind_code

-- there is no byte, or another one
abbrev pub ExternalKindFault : ReadError → Cursor → Type 0
ExternalKindFault = CodedFault kind_code kind_error

-- the next kind
unfoldable pub external_kind_at : Cursor → Result (ExternalKind × Cursor) ReadError
external_kind_at c = coded_at kind_code (Func ∷ Table ∷ Memory ∷ Global ∷ []) kind_error c

-- ---- what is imported

-- the type of something of that kind: of a function the number, of the others the type itself
abbrev pub IsEntity : ExternalKind → ℕ → ImportEntity → List ℕ → Type 0
IsEntity Func = Seen IsU32 (λ n. AFunction n)
IsEntity Table = Seen IsTableType (λ t. ATable t)
IsEntity Memory = Seen IsMemoryType (λ m. AMemory m)
IsEntity Global = Seen IsGlobalType (λ g. AGlobal g)

-- what is wrong with the type
abbrev pub EntityFault : ExternalKind → ReadError → Cursor → Type 0
EntityFault Func = NumberFault
EntityFault Table = TableTypeFault
EntityFault Memory = MemoryTypeFault
EntityFault Global = GlobalTypeFault

-- the type that comes next, of something of that kind
unfoldable pub entity_at : ExternalKind → Cursor → Result (ImportEntity × Cursor) ReadError
entity_at Func c = map_at (λ n. AFunction n) number_at c
entity_at Table c = map_at (λ t. ATable t) table_type_at c
entity_at Memory c = map_at (λ m. AMemory m) memory_type_at c
entity_at Global c = map_at (λ g. AGlobal g) global_type_at c

-- ---- imports

-- an import as clauses see it: from which module, under which name, and what
pub record Imported : Type 0 where
  pub origin : List ℕ
  pub name : List ℕ
  pub entity : ImportEntity

-- an import, and how many bytes lie before its name
pub record PlacedImported : Type 0 where
  pub import : Imported
  pub name_offset : ℕ

-- what was read as an import
abbrev pub import_from : List ℕ × ((List ℕ × ℕ) × (ExternalKind × ImportEntity)) → PlacedImported
import_from p = record {
  import = record { origin = p.0; name = p.1.0.0; entity = p.1.1.1 };
  name_offset = p.1.0.1;
}

-- two names, the kind, and the type
abbrev pub IsImport : ℕ → PlacedImported → List ℕ → Type 0
IsImport =
    Seen (Then IsName (λ _. Then IsPlacedName (λ _. Then IsExternalKind IsEntity))) import_from

-- the first of the four that is at fault
abbrev pub ImportFault : ReadError → Cursor → Type 0
ImportFault =
    ThenFault IsName WordFault (λ _. ThenFault IsPlacedName WordFault
    (λ _. ThenFault IsExternalKind ExternalKindFault EntityFault))

-- the next import
unfoldable pub import_at : Cursor → Result (PlacedImported × Cursor) ReadError
import_at c =
    map_at import_from (then_at word_at
    (λ _. then_at placed_name_at (λ _. then_at external_kind_at entity_at))) c

-- a memory
abbrev pub is_memory : ImportEntity → Bool
is_memory (AMemory m) = true
is_memory _ = false

-- a memory is imported
abbrev pub imports_memory : PlacedImported → Bool
imports_memory i = is_memory i.import.entity

-- one memory at most is imported
abbrev pub memory_import_once : Once PlacedImported
memory_import_once = record { sort = imports_memory; seen = false; many = Unsupported ManyMemories }

-- the payload is a list of these imports, at most one of them a memory
abbrev pub ArePlacedImports : List PlacedImported → List ℕ → Type 0
ArePlacedImports = Whole (ListedOnce IsImport memory_import_once)

-- the same without the places of the names
abbrev pub plain_imports : List PlacedImported → List Imported
plain_imports = map (λ i. i.import)

-- the payload is a list of these imports, wherever their names stand
abbrev pub AreImports : List Imported → List ℕ → Type 0
AreImports = SeenAs plain_imports ArePlacedImports

-- what is wrong with a payload that is no such list
abbrev pub ImportsFault : ReadError → List ℕ → Type 0
ImportsFault =
    WholeFault (ListedOnce IsImport memory_import_once)
    (ListedOnceFault IsImport ImportFault memory_import_once)

-- the imports of a whole payload, with the places of their names
abbrev pub placed_imports_of : List ℕ → Result (List PlacedImported) ReadError
placed_imports_of payload = whole_of (list_once_at import_at memory_import_once) payload

-- the imports of a whole payload
abbrev pub imports_of : List ℕ → Result (List Imported) ReadError
imports_of payload = seen_of plain_imports placed_imports_of payload

-- ---- imports of one kind

-- an imported function as clauses see it
pub record ImportedFunction : Type 0 where
  pub origin : List ℕ
  pub name : List ℕ
  pub type_index : ℕ

-- an imported global as clauses see it
pub record ImportedGlobal : Type 0 where
  pub origin : List ℕ
  pub name : List ℕ
  pub ty : GlobalType

-- the import as one of a function
abbrev pub function_import : Imported → Option ImportedFunction
function_import i = elim i.entity [
  | AFunction n ↦ Some (record { origin = i.origin; name = i.name; type_index = n })
  | _ ↦ None
]

-- the import as one of a global
abbrev pub global_import : Imported → Option ImportedGlobal
global_import i = elim i.entity [
  | AGlobal g ↦ Some (record { origin = i.origin; name = i.name; ty = g })
  | _ ↦ None
]
