-- The function space of the output: what is imported, what the linker makes, what objects define.
-- After it come the wrappers of exports.
use Rattle.std.specs.Prelude.{ℕ, List, [], ◌∷◌, ◌++◌, map, length, if◌then◌else◌, Option, Some, None}
use Rattle.std.specs.List.{filter, range_with_len}
use Rattle.wl_linking.specs.Object.{Object}
use Rattle.wl_custom.specs.declared.symbols.WasmSymbolKind.TheVariants.{Func}
use Rattle.wl_symbols.specs.declared.units.WasmGcUnit.TheVariants.{DefinedFunction}
use Rattle.wl_symbols.specs.declared.linker_symbol.WasmLinkerSymbol.{WasmLinkerSymbol}
use Rattle.wl_symbols.specs.declared.linker_symbol.WasmLinkerSymbol.TheVariants.{CallCtors, InitTls}
use Rattle.wl_symbols.specs.ImportSlots.{ImportSlot, object_slots}
use Rattle.wl_symbols.specs.Left.{first_imports}
use Rattle.wl_symbols.specs.Input.{Input, keeps}
use Rattle.wl_symbols.specs.KeptSlots.{is_kept_slot}
use Rattle.wl_bind.specs.FunctionBinding.{link_stubs, host_functions, binds_function}
use Rattle.wl_bind.specs.Made.{is_made, has_init_memory}
use Rattle.wl_bind.specs.Parts.{joined, by_object}
use Rattle.wl_bind.specs.declared.binding.FunctionTarget.{FunctionTarget}
use Rattle.wl_bind.specs.declared.binding.FunctionTarget.TheVariants.{Defined, Made, Host, Stub}

-- an entry: a function that symbols lead to, or the one that copies data for all threads
pub data FunctionEntry : Type 0 where
  FunctionOf : FunctionTarget → FunctionEntry
  InitMemory : FunctionEntry

-- ---- the parts

-- the host imports, in order of their first kept slots
abbrev pub host_function_part : Input → List FunctionEntry
host_function_part input =
    map (λ (t : ImportSlot). FunctionOf (Host t.object t.number))
    (first_imports (host_functions input))

-- a function that the linker makes, where there is one
abbrev pub made_function_part : Input → WasmLinkerSymbol → List FunctionEntry
made_function_part input m = if is_made input m then FunctionOf (Made m) ∷ [] else []

-- the function that copies data for all threads, where there is some
abbrev pub init_memory_part : Input → List FunctionEntry
init_memory_part input = if has_init_memory input then InitMemory ∷ [] else []

-- the stubs, in order of their first kept slots
abbrev pub stub_part : Input → List FunctionEntry
stub_part input =
    map (λ (t : ImportSlot). FunctionOf (Stub t.object t.number)) (link_stubs input)

-- the numbers of the functions of an object that are kept
abbrev pub kept_functions : Input → ℕ → Object → List ℕ
kept_functions input object o =
    filter (λ k. keeps input object (DefinedFunction k)) (range_with_len 0 (length o.functions))

-- those functions
abbrev pub functions_of : Input → ℕ → Object → List FunctionEntry
functions_of input object o =
    map (λ k. FunctionOf (Defined object k)) (kept_functions input object o)

-- those of all objects
abbrev pub object_functions : Input → List FunctionEntry
object_functions input = by_object (functions_of input) 0 input.link.objects

-- what comes before them: host imports; what calls the constructors, what fills the block of a
-- thread, and what copies data for all threads; stubs
abbrev pub function_parts : Input → List (List FunctionEntry)
function_parts input =
    host_function_part input
    ∷ made_function_part input CallCtors
    ∷ made_function_part input InitTls
    ∷ init_memory_part input
    ∷ stub_part input
    ∷ []

-- the space
abbrev pub function_space : Input → List FunctionEntry
function_space input = joined (function_parts input) ++ object_functions input

-- ---- the functions of an object, by their indices there (core specification, "Indices")

-- what an import slot stands for, where it is kept
abbrev pub function_slot_entry : Input → ImportSlot → Option FunctionEntry
function_slot_entry input t =
    if is_kept_slot input t then Some (FunctionOf (binds_function input t)) else None

-- a function that the object defines, where it is kept
abbrev pub own_function_entry : Input → ℕ → ℕ → Option FunctionEntry
own_function_entry input object k =
    if keeps input object (DefinedFunction k) then Some (FunctionOf (Defined object k)) else None

-- what it imports, and then what it defines
abbrev pub local_functions : Input → ℕ → Object → List (Option FunctionEntry)
local_functions input object o =
    map (function_slot_entry input) (object_slots object Func o)
    ++ map (own_function_entry input object) (range_with_len 0 (length o.functions))
