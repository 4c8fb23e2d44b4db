-- The types of the functions of the output.
use Rattle.std.specs.Prelude.{◌≡◌, ℕ, List, [], Contains, Option, Some, slice_get}
use Rattle.std.specs.Option.{option_and_then}
use Rattle.wl_module.specs.Types.{FunctionType}
use Rattle.wl_custom.specs.declared.symbols.WasmSymbolKind.TheVariants.{Func}
use Rattle.wl_symbols.specs.ImportSlots.{ImportSlot, import_slots}
use Rattle.wl_bind.specs.FunctionSpace.{FunctionEntry, FunctionOf, InitMemory}
use Rattle.wl_bind.specs.FunctionTypes.{type_of_defined, type_of_made, slot_type}
use Rattle.wl_symbols.specs.Input.{Input}
use Rattle.wl_bind.specs.OutputTypes.{output_types}
use Rattle.wl_bind.specs.declared.binding.FunctionTarget.TheVariants.{Defined, Made, Host, Stub}

-- the import slot of that number of the functions of an object
abbrev pub function_slot : Input → ℕ → ℕ → Option ImportSlot
function_slot input object slot = slice_get (import_slots input.link.objects object Func) slot

-- its type
abbrev pub type_of_slot : Input → ℕ → ℕ → Option FunctionType
type_of_slot input object slot =
    option_and_then (slot_type input.link.objects) (function_slot input object slot)

-- the type of a function: an import of the host and a stub have that of their first slot, and what
-- copies data for all threads takes nothing
abbrev pub type_of_entry : Input → FunctionEntry → Option FunctionType
type_of_entry input (FunctionOf (Defined object function)) =
    type_of_defined input.link.objects object function
type_of_entry input (FunctionOf (Made m)) = type_of_made m
type_of_entry input (FunctionOf (Host object slot)) = type_of_slot input object slot
type_of_entry input (FunctionOf (Stub object slot)) = type_of_slot input object slot
type_of_entry input InitMemory = Some (record { params = []; results = [] })

-- the function has a type, which the output has
pub record HasOutputType (input : Input) (entry : FunctionEntry) : Type 0 where
  pub ty : FunctionType
  pub has : type_of_entry input entry ≡ Some ty
  pub one : Contains (output_types input) ty

-- the function has a type, and where a map of types has that number it leads to this type of the
-- output
pub record HasTypeIndex (input : Input) (entry : FunctionEntry) (indices : List ℕ) (number : ℕ)
    : Type 0 where
  pub ty : FunctionType
  pub has : type_of_entry input entry ≡ Some ty
  pub index : ℕ
  pub at : slice_get indices number ≡ Some index
  pub typed : slice_get (output_types input) index ≡ Some ty
