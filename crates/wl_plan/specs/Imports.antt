-- What the output imports.
use Rattle.std.specs.Prelude.{◌≡◌, ℕ, List, [], ◌∷◌, ◌++◌, Option, Some, None, slice_get}
use Rattle.std.specs.List.{AllZip}
use Rattle.std.specs.Option.{option_map_or, option_and_then}
use Rattle.wl_module.specs.Types.{FunctionType}
use Rattle.wl_module.specs.declared.globals.GlobalType.{GlobalType}
use Rattle.wl_module.specs.declared.imports.ImportEntity.{ImportEntity}
use Rattle.wl_module.specs.declared.imports.ImportEntity.TheVariants as imported
use Rattle.wl_module.specs.declared.limits.MemoryType.{MemoryType}
use Rattle.wl_custom.specs.declared.symbols.WasmSymbolKind.TheVariants.{Global as GlobalKind}
use Rattle.wl_words.specs.Values.{MemoryName}
use Rattle.wl_symbols.specs.ImportSlots.{ImportSlot, import_slots}
use Rattle.wl_symbols.specs.Left.{HostImport}
use Rattle.wl_bind.specs.EntryTypes.{type_of_slot}
use Rattle.wl_symbols.specs.Input.{Input}
use Rattle.wl_bind.specs.Shared.{function_imports, global_imports}
use Rattle.wl_plan.specs.Functions.{IsTypeNumber}
use Rattle.wl_plan.specs.PlannedImports.{PlannedImport}
use Rattle.wl_output.specs.declared.entities.OutputImportEntity.TheVariants.{Function, Global, Memory}
use Rattle.wl_places.specs.declared.placing.Placing.{Placing}

-- ---- functions and globals

-- a function, by the names under which the host is asked for it, with its type among these
pub record IsFunctionImport (input : Input) (types : List FunctionType) (h : HostImport)
    (i : PlannedImport) : Type 0 where
  pub origin : i.origin ≡ h.module_
  pub name : i.name ≡ h.name
  pub number : ℕ
  pub entity : i.entity ≡ Function number
  pub typed : IsTypeNumber types (type_of_slot input h.object h.slot) number

-- the type under which a global is imported
abbrev pub global_type_in : ImportEntity → Option GlobalType
global_type_in (imported.Global ty) = Some ty
global_type_in (imported.Func number) = None
global_type_in (imported.Table t) = None
global_type_in (imported.Memory m) = None

-- that of the slot of that number of the globals of an object
abbrev pub global_type_of_slot : Input → ℕ → ℕ → Option GlobalType
global_type_of_slot input object slot =
    option_and_then (λ (t : ImportSlot). global_type_in t.item.entity)
    (slice_get (import_slots input.link.objects object GlobalKind) slot)

-- a global, likewise
pub record IsGlobalImport (input : Input) (h : HostImport) (i : PlannedImport) : Type 0 where
  pub origin : i.origin ≡ h.module_
  pub name : i.name ≡ h.name
  pub ty : GlobalType
  pub entity : i.entity ≡ Global ty
  pub typed : global_type_of_slot input h.object h.slot ≡ Some ty

-- ---- the memory

-- the memory under a name
abbrev pub memory_import : MemoryType → MemoryName → PlannedImport
memory_import memory name =
    record { origin = name.origin; name = name.name; entity = Memory memory }

-- it is imported where the options say so
abbrev pub memory_imports : Input → Placing → List PlannedImport
memory_imports input g =
    option_map_or (λ name. memory_import g.memory name ∷ []) input.link.args.import_memory []

-- and else the output has it
abbrev pub own_memory : Input → Placing → Option MemoryType
own_memory input g = option_map_or (λ name. None) input.link.args.import_memory (Some g.memory)

-- ---- the list

-- the functions, then the globals, each in order of their first slots, and then the memory
pub record AreImports (input : Input) (types : List FunctionType) (g : Placing)
    (imports : List PlannedImport) : Type 0 where
  pub functions : List PlannedImport
  pub globals : List PlannedImport
  pub are_functions : AllZip (IsFunctionImport input types) (function_imports input) functions
  pub are_globals : AllZip (IsGlobalImport input) (global_imports input) globals
  pub all : imports ≡ functions ++ globals ++ memory_imports input g
