-- What the maps of a plan say of functions and globals that the output doesn't have.
use Rattle.std.specs.Prelude.{ℕ, ◌+◌, ◌==◌, Bool, not, List, [], ◌∷◌, length}
use Rattle.std.specs.List.{count_by, range_with_len}
use Rattle.wl_linking.specs.Object.{Object}
use Rattle.wl_custom.specs.declared.symbols.WasmSymbolKind.TheVariants.{Func, Global}
use Rattle.wl_index.specs.declared.index.TheConstants.{WASM_DEAD_INDEX}
use Rattle.wl_index.specs.declared.index_map.WasmObjectIndexMap.{WasmObjectIndexMap}
use Rattle.wl_symbols.specs.ImportSlots.{ImportSlot, object_slots}
use Rattle.wl_symbols.specs.Input.{Input, keeps}
use Rattle.wl_symbols.specs.KeptSlots.{is_kept_slot}
use Rattle.wl_symbols.specs.declared.units.WasmGcUnit.TheVariants.{DefinedFunction, DefinedGlobal}

-- the index of what the output doesn't have
abbrev pub is_dropped : ℕ → Bool
is_dropped index = index == WASM_DEAD_INDEX

-- how many functions and globals of an object the output doesn't have
abbrev pub dropped_in : WasmObjectIndexMap → ℕ
dropped_in m = count_by is_dropped m.function_indices + count_by is_dropped m.global_indices

-- how many of these import slots aren't kept
abbrev pub unkept_slots : Input → List ImportSlot → ℕ
unkept_slots input slots = count_by (λ (t : ImportSlot). not (is_kept_slot input t)) slots

-- how many of the first functions that an object defines aren't kept
abbrev pub unkept_functions : Input → ℕ → ℕ → ℕ
unkept_functions input object count =
    count_by (λ k. not (keeps input object (DefinedFunction k))) (range_with_len 0 count)

-- and of the first globals
abbrev pub unkept_globals : Input → ℕ → ℕ → ℕ
unkept_globals input object count =
    count_by (λ k. not (keeps input object (DefinedGlobal k))) (range_with_len 0 count)

-- how many functions and globals of an object aren't kept: of those that it imports, and of those
-- that it defines
abbrev pub unkept_in : Input → ℕ → Object → ℕ
unkept_in input object o =
    (unkept_slots input (object_slots object Func o)
    + unkept_functions input object (length o.functions))
    + (unkept_slots input (object_slots object Global o)
    + unkept_globals input object (length o.globals))

-- those of all these objects, the first of which has that number
abbrev pub unkept_from : Input → ℕ → List Object → ℕ
unkept_from input object [] = 0
unkept_from input object (o ∷ objects) =
    unkept_in input object o + unkept_from input (object + 1) objects
