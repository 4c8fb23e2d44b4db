-- The functions of the output that aren't imported: where each is from, and its type.
use Rattle.std.specs.Prelude.{◌≡◌, ℕ, List, ◌++◌, length, drop, Option, Some, None, slice_get}
use Rattle.std.specs.List.{AllZip}
use Rattle.std.specs.Option.{option_map}
use Rattle.wl_module.specs.Types.{FunctionType}
use Rattle.wl_symbols.specs.ImportSlots.{ImportSlot}
use Rattle.wl_bind.specs.EntryTypes.{function_slot, type_of_entry}
use Rattle.wl_symbols.specs.Input.{Input}
use Rattle.wl_bind.specs.FunctionSpace.{FunctionEntry, FunctionOf, InitMemory, function_space, host_function_part}
use Rattle.wl_bind.specs.declared.binding.FunctionTarget.TheVariants.{Defined, Made, Host, Stub}
use Rattle.wl_exports.specs.Exports.{ExportEntry, OfFunction}
use Rattle.wl_exports.specs.Wrappers.{wrapped}
use Rattle.wl_plan.specs.Origins.{Origin, OfObject, OfLinker, OfInitMemory, OfStub, OfWrapper, PlannedFunction}

-- the function space after the imports
abbrev pub own_functions : Input → List FunctionEntry
own_functions input = drop (length (host_function_part input)) (function_space input)

-- a stub, by the field name of the slot of that number
abbrev pub stub_at : Input → ℕ → ℕ → Option Origin
stub_at input object slot =
    option_map (λ (t : ImportSlot). OfStub t.item.name) (function_slot input object slot)

-- where a function is from; one that is imported is from no object
abbrev pub origin_of : Input → FunctionEntry → Option Origin
origin_of input (FunctionOf (Defined object function)) = Some (OfObject object function)
origin_of input (FunctionOf (Made m)) = Some (OfLinker m)
origin_of input (FunctionOf (Host object slot)) = None
origin_of input (FunctionOf (Stub object slot)) = stub_at input object slot
origin_of input InitMemory = Some OfInitMemory

-- the number is that of the type among these
abbrev pub IsTypeNumber : List FunctionType → Option FunctionType → ℕ → Type 0
IsTypeNumber types ty number =
    (t : FunctionType) × (ty ≡ Some t) × (slice_get types number ≡ Some t)

-- the function is that entry, with its type among these
pub record IsOutputFunction (input : Input) (types : List FunctionType) (entry : FunctionEntry)
    (f : PlannedFunction) : Type 0 where
  pub origin : origin_of input entry ≡ Some f.origin
  pub typed : IsTypeNumber types (type_of_entry input entry) f.type_index

-- the functions are those of the space, in order
abbrev pub AreOwnFunctions : Input → List FunctionType → List PlannedFunction → Type 0
AreOwnFunctions input types functions =
    AllZip (IsOutputFunction input types) (own_functions input) functions

-- ---- wrappers

-- the function is the wrapper of an export, with the type of what the export leads to
pub record IsWrapperFunction (input : Input) (types : List FunctionType) (e : ExportEntry)
    (f : PlannedFunction) : Type 0 where
  pub origin : f.origin ≡ OfWrapper e.name
  pub function : FunctionEntry
  pub leads : e.entity ≡ OfFunction function
  pub typed : IsTypeNumber types (type_of_entry input function) f.type_index

-- the functions that aren't imported: those of the space, and after them the wrappers
pub record AreOutputFunctions (input : Input) (types : List FunctionType)
    (functions : List PlannedFunction) : Type 0 where
  pub own : List PlannedFunction
  pub wrappers : List PlannedFunction
  pub parts : functions ≡ own ++ wrappers
  pub are_own : AreOwnFunctions input types own
  pub are_wrappers : AllZip (IsWrapperFunction input types) (wrapped input) wrappers
