-- The global space of the output: what is imported, what the linker makes, what objects define.
use Rattle.std.specs.Prelude.{ℕ, List, [], ◌∷◌, ◌++◌, map, length, if◌then◌else◌, Option, Some, None}
use Rattle.std.specs.List.{filter, range_with_len}
use Rattle.wl_linking.specs.Object.{Object}
use Rattle.wl_custom.specs.declared.symbols.WasmSymbolKind.TheVariants.{Global}
use Rattle.wl_symbols.specs.declared.units.WasmGcUnit.TheVariants.{DefinedGlobal}
use Rattle.wl_symbols.specs.declared.linker_symbol.WasmLinkerSymbol.{WasmLinkerSymbol}
use Rattle.wl_symbols.specs.declared.linker_symbol.WasmLinkerSymbol.TheVariants.{MemoryBase, TableBase, StackPointer, TlsBase, TlsSize, TlsAlign}
use Rattle.wl_symbols.specs.ImportSlots.{ImportSlot, object_slots}
use Rattle.wl_symbols.specs.Left.{first_imports}
use Rattle.wl_symbols.specs.Input.{Input, keeps}
use Rattle.wl_symbols.specs.KeptSlots.{is_kept_slot}
use Rattle.wl_bind.specs.GlobalBinding.{host_globals, binds_global}
use Rattle.wl_bind.specs.Scan.{got_mem, got_func}
use Rattle.wl_bind.specs.Made.{is_made}
use Rattle.wl_bind.specs.ExportedAddresses.{exported_addresses}
use Rattle.wl_bind.specs.ExportedData.{dynamic_data, forced_data}
use Rattle.wl_bind.specs.Parts.{joined, by_object}
use Rattle.wl_bind.specs.declared.binding.GlobalTarget.{GlobalTarget}
use Rattle.wl_bind.specs.declared.binding.GlobalTarget.TheVariants.{Defined, Made, GotMem, GotFunc, Host}
use Rattle.wl_bind.specs.declared.exported.DataSymbol.{DataSymbol}

-- an entry: a global that slots are bound to; the address of data that the linker makes; that of
-- data that an object defines
pub data GlobalEntry : Type 0 where
  GlobalOf : GlobalTarget → GlobalEntry
  AddressOf : WasmLinkerSymbol → GlobalEntry
  DataOf : DataSymbol → GlobalEntry

-- ---- the parts

-- the host imports, in order of their first kept slots
abbrev pub host_global_part : Input → List GlobalEntry
host_global_part input =
    map (λ (t : ImportSlot). GlobalOf (Host t.object t.number)) (first_imports (host_globals input))

-- a global that the linker makes, where there is one
abbrev pub made_global_part : Input → WasmLinkerSymbol → List GlobalEntry
made_global_part input m = if is_made input m then GlobalOf (Made m) ∷ [] else []

-- the exported addresses of the linker's
abbrev pub address_part : Input → List GlobalEntry
address_part input = map AddressOf (exported_addresses input.link.args)

-- the entries of the GOT lists, in order
abbrev pub got_mem_part : Input → List GlobalEntry
got_mem_part input = map (λ k. GlobalOf (GotMem k)) (range_with_len 0 (length (got_mem input)))

abbrev pub got_func_part : Input → List GlobalEntry
got_func_part input = map (λ k. GlobalOf (GotFunc k)) (range_with_len 0 (length (got_func input)))

-- the exported data of objects: with `--export-dynamic`, and by name
abbrev pub dynamic_part : Input → List GlobalEntry
dynamic_part input = map DataOf (dynamic_data input)

abbrev pub forced_part : Input → List GlobalEntry
forced_part input = map DataOf (forced_data input)

-- the numbers of the globals of an object that are kept
abbrev pub kept_globals : Input → ℕ → Object → List ℕ
kept_globals input object o =
    filter (λ k. keeps input object (DefinedGlobal k)) (range_with_len 0 (length o.globals))

-- those globals
abbrev pub globals_of : Input → ℕ → Object → List GlobalEntry
globals_of input object o = map (λ k. GlobalOf (Defined object k)) (kept_globals input object o)

-- those of all objects
abbrev pub object_globals : Input → List GlobalEntry
object_globals input = by_object (globals_of input) 0 input.link.objects

-- what comes before them, in this order
abbrev pub global_parts : Input → List (List GlobalEntry)
global_parts input =
    host_global_part input
    ∷ made_global_part input MemoryBase
    ∷ made_global_part input TableBase
    ∷ made_global_part input StackPointer
    ∷ made_global_part input TlsBase
    ∷ made_global_part input TlsSize
    ∷ made_global_part input TlsAlign
    ∷ address_part input
    ∷ got_mem_part input
    ∷ got_func_part input
    ∷ dynamic_part input
    ∷ forced_part input
    ∷ []

-- the space
abbrev pub global_space : Input → List GlobalEntry
global_space input = joined (global_parts input) ++ object_globals input

-- ---- the globals of an object, by their indices there (core specification, "Indices")

-- what an import slot stands for, where it is kept
abbrev pub global_slot_entry : Input → ImportSlot → Option GlobalEntry
global_slot_entry input t =
    if is_kept_slot input t then Some (GlobalOf (binds_global input t)) else None

-- a global that the object defines, where it is kept
abbrev pub own_global_entry : Input → ℕ → ℕ → Option GlobalEntry
own_global_entry input object k =
    if keeps input object (DefinedGlobal k) then Some (GlobalOf (Defined object k)) else None

-- what it imports, and then what it defines
abbrev pub local_globals : Input → ℕ → Object → List (Option GlobalEntry)
local_globals input object o =
    map (global_slot_entry input) (object_slots object Global o)
    ++ map (own_global_entry input object) (range_with_len 0 (length o.globals))
