-- Marks on the types of an object, and the steps by which types are merged.
use Rattle.std.specs.Prelude.{◌≡◌, ℕ, ◌+◌, Bool, true, false, nat_lt, List, [], ◌∷◌, ◌++◌, map, filter_map, length, if◌then◌else◌, Option, Some, None, slice_set, slice_index_or}
use Rattle.indexmap.specs.IndexSet.{insert_all}
use Rattle.wl_module.specs.Types.{FunctionType, same_type}
use Rattle.wl_module.specs.declared.types.ValType.{ValType}
use Rattle.wl_custom.specs.RelocationTypes.{names_a_type}
use Rattle.wl_custom.specs.declared.symbols.WasmSymbolKind.TheVariants.{Func}
use Rattle.wl_symbols.specs.declared.units.WasmGcUnit.TheVariants.{DefinedFunction}
use Rattle.wl_symbols.specs.ImportSlots.{ImportSlot, import_slots}
use Rattle.wl_symbols.specs.declared.linker_symbol.WasmLinkerSymbol.TheVariants.{CallCtors, InitTls}
use Rattle.wl_symbols.specs.Input.{Input, keeps}
use Rattle.wl_bind.specs.FunctionTypes.{type_number}
use Rattle.wl_bind.specs.OutputTypes.{made_type, init_memory_type}
use Rattle.wl_bind.specs.steps.Shared.{is_host_of}
use Rattle.wl_symbols.specs.declared.relocated.Relocated.{Relocated}

-- ---- marks

-- the marks, with the type of that number marked, if one is named and there is one
abbrev pub mark : List Bool → Option ℕ → List Bool
mark marks None = marks
mark marks (Some number) =
    if nat_lt number (length marks) then slice_set marks number true else marks

-- the marks, with each of these marked in turn
abbrev pub mark_all : List Bool → List (Option ℕ) → List Bool
mark_all marks [] = marks
mark_all marks (number ∷ numbers) = mark_all (mark marks number) numbers

-- the type of that number is marked
abbrev pub is_marked : List Bool → ℕ → Bool
is_marked marks number = slice_index_or marks number false

-- of so many those are marked that pass
pub record AreMarked (count : ℕ) (passes : ℕ → Bool) (marks : List Bool) : Type 0 where
  pub len : length marks ≡ count
  pub each : (number : ℕ) → nat_lt number count ≡ true → is_marked marks number ≡ passes number

-- ---- what is marked

-- the types of these functions of an object, the first of which has that number, where the functions
-- are kept
abbrev pub function_types : Input → ℕ → ℕ → List ℕ → List (Option ℕ)
function_types input object k [] = []
function_types input object k (ty ∷ types) =
    (if keeps input object (DefinedFunction k) then Some ty else None)
    ∷ function_types input object (k + 1) types

-- the type of a function slot, where the slot is left to the host
abbrev pub host_type : Input → ImportSlot → Option ℕ
host_type input t = if is_host_of input t then type_number t.item.entity else None

-- those of the function slots of an object
abbrev pub host_types : Input → ℕ → List (Option ℕ)
host_types input object =
    map (host_type input) (import_slots input.link.objects object Func)

-- the type that a relocation names, if it names one
abbrev pub named_type : Relocated → Option ℕ
named_type r = if names_a_type r.relocation.ty then Some r.relocation.index else None

-- ---- merging

-- those that there are
abbrev pub present : List (Option FunctionType) → List FunctionType
present entries = filter_map (λ (entry : Option FunctionType). entry) entries

-- the list with those of these types that there are, each unless it is there
abbrev pub merged : List FunctionType → List (Option FunctionType) → List FunctionType
merged types entries = insert_all same_type types (present entries)

-- a type, where it is marked
abbrev pub entry_if : Bool → FunctionType → Option FunctionType
entry_if passes ty = if passes then Some ty else None

-- ---- what the linker makes

-- the type with these parameters and no results, where there is such a function
abbrev pub type_where : Bool → List ValType → List FunctionType
type_where exists params = if exists then record { params = params; results = [] } ∷ [] else []

-- the types of what it makes, without those of stubs
abbrev pub made_functions : Input → List FunctionType
made_functions input =
    made_type input CallCtors ++ made_type input InitTls ++ init_memory_type input
