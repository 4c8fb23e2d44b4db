-- What the size of the table is computed from, where maps have indices of functions, and slots that
-- are set one by one.
use Rattle.std.specs.Prelude.{ℕ, ◌+◌, ◌==◌, ◌&&◌, Bool, false, List, map, if◌then◌else◌, Option, unwrap_or, position, slice_get}
use Rattle.std.specs.List.{list_any}
use Rattle.std.specs.Option.{option_and_then, option_map}
use Rattle.wl_module.specs.Imports.{Imported}
use Rattle.wl_linking.specs.Object.{Object}
use Rattle.wl_index.specs.declared.index.TheConstants.{WASM_DEAD_INDEX, LINKER_TABLE_BASE}
use Rattle.wl_index.specs.declared.index_map.WasmObjectIndexMap.{WasmObjectIndexMap}
use Rattle.wl_symbols.specs.ImportSlots.{ImportSlot}
use Rattle.wl_bind.specs.FunctionSpace.{FunctionEntry, FunctionOf, InitMemory}
use Rattle.wl_bind.specs.Made.{table_minimum}
use Rattle.wl_bind.specs.Sameness.{same_target}
use Rattle.wl_bind.specs.declared.binding.FunctionTarget.{FunctionTarget}
use Rattle.wl_bind.specs.declared.binding.FunctionTarget.TheVariants.{Defined, Made, Host, Stub}

-- the least sizes of the tables that an object imports; 0 for other imports
abbrev pub table_minimums : Object → List ℕ
table_minimums o = map (λ (i : Imported). table_minimum i.entity) o.imports

-- the index that the map of an object has at a place of its functions
abbrev pub index_at : List WasmObjectIndexMap → ℕ → ℕ → Option ℕ
index_at maps object place =
    option_and_then (λ (m : WasmObjectIndexMap). slice_get m.function_indices place)
    (slice_get maps object)

-- the entry is the stub of that slot
abbrev pub is_stub_of : FunctionEntry → ImportSlot → Bool
is_stub_of (FunctionOf (Stub object slot)) t = (object == t.object) && (slot == t.number)
is_stub_of (FunctionOf (Defined object function)) t = false
is_stub_of (FunctionOf (Made m)) t = false
is_stub_of (FunctionOf (Host object slot)) t = false
is_stub_of InitMemory t = false

-- the slot of an entry where these stubs have theirs
abbrev pub stub_slot : List ImportSlot → FunctionEntry → ℕ
stub_slot stubs e = if list_any (is_stub_of e) stubs then 0 else WASM_DEAD_INDEX

-- the slot of a function where these have theirs
abbrev pub place_slot : List FunctionTarget → FunctionTarget → ℕ
place_slot table target =
    unwrap_or (option_map (λ (place : ℕ). place + LINKER_TABLE_BASE) (position (same_target target) table))
    WASM_DEAD_INDEX

-- the slot of an entry where stubs and these functions of the table have theirs
abbrev pub slot_among : List FunctionTarget → FunctionEntry → ℕ
slot_among table (FunctionOf (Stub object slot)) = 0
slot_among table (FunctionOf (Defined object function)) = place_slot table (Defined object function)
slot_among table (FunctionOf (Made m)) = place_slot table (Made m)
slot_among table (FunctionOf (Host object slot)) = place_slot table (Host object slot)
slot_among table InitMemory = WASM_DEAD_INDEX
