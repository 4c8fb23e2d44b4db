-- What the linker makes: which functions and globals of its own the output has.
use Rattle.std.specs.Prelude.{ℕ, ◌+◌, ◌==◌, ◌&&◌, ◌||◌, Bool, true, false, not, List, [], ◌∷◌, map, max, length, slice_get, if◌then◌else◌}
use Rattle.std.specs.List.{list_any, flat_map, range_with_len}
use Rattle.std.specs.Option.{option_map_or}
use Rattle.std.specs.Str.{bytes_eq}
use Rattle.wl_index.specs.declared.index.TheConstants.{LINKER_TABLE_BASE}
use Rattle.wl_index.specs.declared.memory.TheConstants.{LINKER_MEMORY_BASE}
use Rattle.wl_module.specs.Imports.{Imported}
use Rattle.wl_module.specs.Segments.{Segment}
use Rattle.wl_module.specs.declared.imports.ExternalKind.TheVariants as external
use Rattle.wl_module.specs.declared.imports.ImportEntity.{ImportEntity}
use Rattle.wl_module.specs.declared.imports.ImportEntity.TheVariants as entity
use Rattle.wl_module.specs.declared.segments.DataKind.{DataKind}
use Rattle.wl_module.specs.declared.segments.DataKind.TheVariants.{Passive, Active}
use Rattle.wl_linking.specs.Object.{Object}
use Rattle.wl_linking.specs.Spaces.{is_of_kind}
use Rattle.wl_custom.specs.declared.symbols.WasmSymbolKind.TheVariants.{Func, Global}
use Rattle.wl_symbols.specs.declared.units.WasmGcUnit.TheVariants.{DataSegment}
use Rattle.wl_symbols.specs.LinkerNames.{name_of}
use Rattle.wl_symbols.specs.declared.linker_symbol.WasmLinkerSymbol.{WasmLinkerSymbol}
use Rattle.wl_symbols.specs.declared.linker_symbol.WasmLinkerSymbol.TheVariants as made
use Rattle.wl_symbols.specs.ImportSlots.{ImportSlot}
use Rattle.wl_symbols.specs.Input.{Input, keeps}
use Rattle.wl_symbols.specs.KeptSlots.{kept_slots}
use Rattle.wl_bind.specs.Sameness.{same_made}
use Rattle.wl_bind.specs.FunctionBinding.{binds_function}
use Rattle.wl_bind.specs.GlobalBinding.{binds_global}
use Rattle.wl_bind.specs.Scan.{needs_of, table_functions}
use Rattle.wl_bind.specs.ThreadData.{is_thread_segment}
use Rattle.wl_bind.specs.Parts.{any_object}
use Rattle.wl_bind.specs.declared.binding.FunctionTarget.{FunctionTarget}
use Rattle.wl_bind.specs.declared.binding.FunctionTarget.TheVariants as function
use Rattle.wl_bind.specs.declared.binding.GlobalTarget.{GlobalTarget}
use Rattle.wl_bind.specs.declared.binding.GlobalTarget.TheVariants as global
use Rattle.wl_bind.specs.declared.needs.LinkerImportAbsorption.{LinkerImportAbsorption}

-- ---- what asks for it

-- the function is that thing
abbrev pub is_made_function : WasmLinkerSymbol → FunctionTarget → Bool
is_made_function m (function.Made n) = same_made m n
is_made_function m (function.Defined object number) = false
is_made_function m (function.Host object slot) = false
is_made_function m (function.Stub object slot) = false

-- the global is that thing
abbrev pub is_made_global : WasmLinkerSymbol → GlobalTarget → Bool
is_made_global m (global.Made n) = same_made m n
is_made_global m (global.Defined object number) = false
is_made_global m (global.GotMem place) = false
is_made_global m (global.GotFunc place) = false
is_made_global m (global.Host object slot) = false

-- a kept slot is bound to it
abbrev pub is_bound : Input → WasmLinkerSymbol → Bool
is_bound input m =
    list_any (λ (t : ImportSlot). is_made_function m (binds_function input t))
    (kept_slots input Func)
    || list_any (λ (t : ImportSlot). is_made_global m (binds_global input t))
    (kept_slots input Global)

-- its name is to be exported
abbrev pub is_forced : Input → WasmLinkerSymbol → Bool
is_forced input m = list_any (bytes_eq (name_of m)) input.link.args.export_symbols

-- an object has functions that run at the start
abbrev pub has_init_functions : Input → Bool
has_init_functions input =
    list_any (λ (o : Object). not (length o.init_funcs == 0)) input.link.objects

-- ---- segments

-- it goes into the memory when a module starts
abbrev pub is_active : DataKind → Bool
is_active Active = true
is_active Passive = false

-- it does, and it has bytes
abbrev pub is_filled : Segment → Bool
is_filled s = is_active s.kind && not (length s.payload == 0)

-- the segment is kept, and each thread has its own of it
abbrev pub is_kept_thread_data : Input → ℕ → Object → ℕ → Bool
is_kept_thread_data input object o segment =
    keeps input object (DataSegment segment) && is_thread_segment o segment

-- the segment is kept, all threads have it in common, and it has bytes that go into the memory
abbrev pub is_kept_common_data : Input → ℕ → Object → ℕ → Bool
is_kept_common_data input object o segment =
    keeps input object (DataSegment segment) && not (is_thread_segment o segment)
    && option_map_or is_filled (slice_get o.segments segment) false

-- some segment of the object is such a one
abbrev pub keeps_thread_data : Input → ℕ → Object → Bool
keeps_thread_data input object o =
    list_any (is_kept_thread_data input object o) (range_with_len 0 (length o.segments))

abbrev pub keeps_common_data : Input → ℕ → Object → Bool
keeps_common_data input object o =
    list_any (is_kept_common_data input object o) (range_with_len 0 (length o.segments))

-- ---- threads

-- each thread gets a block of its own: memory is shared, and there is a kept segment for it, or a
-- kept slot asks for its size, its alignment or what fills it
abbrev pub has_shared_tls : Input → Bool
has_shared_tls input =
    input.link.args.shared_memory
    && (any_object (keeps_thread_data input) 0 input.link.objects || is_bound input made.TlsSize
    || is_bound input made.TlsAlign || is_bound input made.InitTls)

-- the first thread copies data: memory is shared, and there is some to be copied
abbrev pub has_init_memory : Input → Bool
has_init_memory input =
    input.link.args.shared_memory && any_object (keeps_common_data input) 0 input.link.objects

-- ---- which exist

-- what kept slots and kept relocations ask for, functions that run at the start, and blocks of
-- threads
abbrev pub linker_needs : Input → LinkerImportAbsorption
linker_needs input = record {
  needs_memory_base = (needs_of input).memory_base || is_bound input made.MemoryBase;
  needs_table_base = (needs_of input).table_base || is_bound input made.TableBase;
  needs_tls_base = has_shared_tls input || is_bound input made.TlsBase;
  needs_tls_size = has_shared_tls input;
  needs_tls_align = has_shared_tls input;
  needs_init_tls = has_shared_tls input;
  needs_ctors = has_init_functions input || is_bound input made.CallCtors;
}

-- the output has it: it is asked for, or, where that is enough, its name is to be exported; the
-- stack pointer always; a data name, as a global with the address, where it is to be exported
abbrev pub is_made : Input → WasmLinkerSymbol → Bool
is_made input made.MemoryBase =
    (linker_needs input).needs_memory_base || is_forced input made.MemoryBase
is_made input made.TableBase =
    (linker_needs input).needs_table_base || is_forced input made.TableBase
is_made input made.StackPointer = true
is_made input made.TlsBase = (linker_needs input).needs_tls_base
is_made input made.TlsSize = (linker_needs input).needs_tls_size
is_made input made.TlsAlign = (linker_needs input).needs_tls_align
is_made input made.CallCtors = (linker_needs input).needs_ctors || is_forced input made.CallCtors
is_made input made.InitTls = (linker_needs input).needs_init_tls
is_made input m = is_forced input m

-- the value of `__memory_base`: 0 where it is made for an export alone
abbrev pub memory_base_value : Input → ℕ
memory_base_value input = if (linker_needs input).needs_memory_base then LINKER_MEMORY_BASE else 0

-- ---- the table

-- the object imports one
abbrev pub imports_table : Object → Bool
imports_table o = list_any (λ (i : Imported). is_of_kind external.Table i.entity) o.imports

-- there is a table: a kept relocation asks for it, or an object imports one
abbrev pub has_table : Input → Bool
has_table input = (needs_of input).table || list_any imports_table input.link.objects

-- the least size of a table that is imported; other imports have none
abbrev pub table_minimum : ImportEntity → ℕ
table_minimum (entity.Table t) = t.initial
table_minimum (entity.Func number) = 0
table_minimum (entity.Memory m) = 0
table_minimum (entity.Global g) = 0

-- the greatest of these
abbrev pub greatest : List ℕ → ℕ
greatest [] = 0
greatest (n ∷ ns) = max n (greatest ns)

-- the size of the table: its functions after an empty first slot, and no less than any object asks
-- for
abbrev pub table_size : Input → ℕ
table_size input =
    max (length (table_functions input) + LINKER_TABLE_BASE)
    (greatest (flat_map (λ (o : Object). map (λ (i : Imported). table_minimum i.entity) o.imports)
    input.link.objects))
