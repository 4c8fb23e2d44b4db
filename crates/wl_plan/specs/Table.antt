-- The table of functions, and their slots in it.
use Rattle.std.specs.Prelude.{◌≡◌, ℕ, ◌+◌, List, ◌++◌, map, if◌then◌else◌, Option, Some, None, unwrap_or, position, slice_get}
use Rattle.std.specs.List.{AllZip}
use Rattle.std.specs.Option.{option_map}
use Rattle.wl_module.specs.declared.limits.TableType.{TableType}
use Rattle.wl_index.specs.declared.index.TheConstants.{WASM_DEAD_INDEX, LINKER_TABLE_BASE}
use Rattle.wl_symbols.specs.Input.{Input}
use Rattle.wl_bind.specs.FunctionSpace.{FunctionEntry, FunctionOf, InitMemory, function_space}
use Rattle.wl_bind.specs.Made.{has_table, table_size}
use Rattle.wl_bind.specs.Sameness.{same_target}
use Rattle.wl_bind.specs.Scan.{table_functions}
use Rattle.wl_bind.specs.declared.binding.FunctionTarget.{FunctionTarget}
use Rattle.wl_bind.specs.declared.binding.FunctionTarget.TheVariants.{Defined, Made, Host, Stub}
use Rattle.wl_exports.specs.Exports.{ExportEntry}
use Rattle.wl_exports.specs.Wrappers.{wrapped}

-- ---- slots

-- the slot of one of the functions of the table, after the first one, which holds no function
abbrev pub slot_behind_first : Input → FunctionTarget → Option ℕ
slot_behind_first input target =
    option_map (λ (place : ℕ). place + LINKER_TABLE_BASE) (position (same_target target) (table_functions input))

-- the slot of a function, if it has one: that of a stub is the first, which holds none
abbrev pub slot_of : Input → FunctionTarget → Option ℕ
slot_of input (Stub object slot) = Some 0
slot_of input (Defined object function) = slot_behind_first input (Defined object function)
slot_of input (Made m) = slot_behind_first input (Made m)
slot_of input (Host object slot) = slot_behind_first input (Host object slot)

-- the slot of a function of the space, 4294967295 where it has none
abbrev pub slot_of_entry : Input → FunctionEntry → ℕ
slot_of_entry input (FunctionOf target) = unwrap_or (slot_of input target) WASM_DEAD_INDEX
slot_of_entry input InitMemory = WASM_DEAD_INDEX

-- the slots of the functions of the space, by their indices
abbrev pub space_slots : Input → List ℕ
space_slots input = map (slot_of_entry input) (function_space input)

-- no wrapper has a slot
abbrev pub wrapper_slots : Input → List ℕ
wrapper_slots input = map (λ (e : ExportEntry). WASM_DEAD_INDEX) (wrapped input)

-- the slots of all functions, by their indices
abbrev pub function_slots : Input → List ℕ
function_slots input = space_slots input ++ wrapper_slots input

-- ---- the table

-- the table, where there is one: of one size
abbrev pub output_table : Input → Option TableType
output_table input =
    if has_table input
    then Some (record { initial = table_size input; maximum = Some (table_size input) }) else None

-- the function has the index
abbrev pub IsElement : Input → FunctionTarget → ℕ → Type 0
IsElement input target index =
    slice_get (function_space input) index ≡ Some (FunctionOf target)

-- the indices of its functions, in order
abbrev pub AreElements : Input → List ℕ → Type 0
AreElements input elements = AllZip (IsElement input) (table_functions input) elements
