-- What a machine holds that runs functions of a plan.
use Rattle.std.specs.Prelude.{◌≡◌, ◌<◌, ◌≤◌, ℕ, ℤ, ◌+◌, ◌*◌, ◌^◌, ◌++◌, true, false, List, [], length, map, take, Option, Some, None, slice_get, Contains}
use Rattle.std.specs.List.{AllZip, count_by, list_any, slice_index_or}
use Rattle.wl_module.specs.Bodies.{Body}
use Rattle.wl_module.specs.Exports.{Exported}
use Rattle.wl_module.specs.Types.{FunctionType}
use Rattle.wl_module.specs.declared.limits.TheConstants.{WASM_PAGE_SIZE, MAX_PAGES}
use Rattle.wl_module.specs.declared.types.ValType.TheVariants.{I32 as I32Type}
use Rattle.wl_data.specs.DataPlaces.{in_one_row}
use Rattle.wl_data.specs.Segments.{SegmentLayout}
use Rattle.wl_synth.specs.Bodies.{ThreadBlock}
use Rattle.wl_synth.specs.Machine.{World, State, I32, Done, Runs, have_types}
use Rattle.wl_synth.specs.Memory.{InitsMemory}
use Rattle.wl_synth.specs.ThreadLocal.{IsInitialized}
use Rattle.wl_synth.specs.declared.parts.TlsPointerFixup.{TlsPointerFixup}
use Rattle.wl_places.specs.Addresses.{segment_start}
use Rattle.wl_plan.specs.Origins.{Origin, PlannedFunction}
use Rattle.wl_plan.specs.PlannedImports.{PlannedImport, is_function_import, is_global_import}
use Rattle.wl_symbols.specs.declared.linker_symbol.WasmLinkerSymbol.TheVariants.{CallCtors}
use Rattle.wl_synth.specs.Calls.{MakesCalls, Wraps, wrapped_calls}
use Rattle.wl_bind.specs.EntryTypes.{type_of_entry}
use Rattle.wl_bind.specs.FunctionSpace.{FunctionEntry, FunctionOf, function_space}
use Rattle.wl_bind.specs.declared.binding.FunctionTarget.TheVariants.{Made}
use Rattle.wl_exports.specs.Exports.{ExportEntry, OfFunction, entry_export, first_exports, same_name}
use Rattle.wl_exports.specs.Sources.{IsPlainExport}
use Rattle.wl_exports.specs.Wrappers.{wrapped}
use Rattle.wl_ctors.specs.InitCalls.{AreInitCalls}
use Rattle.wl_ctors.specs.declared.calls.InitCall.{InitCall}
use Rattle.wl_symbols.specs.Input.{Input}
use Rattle.wl_plan.specs.Bodies.{called}
use Rattle.wl_plan.specs.Threads.{place_in_block, IsThreadBlock}
use Rattle.wl_places.specs.Copies.{shared_copies}
use Rattle.wl_output.specs.declared.fixups.Fixup.{Fixup}
use Rattle.wl_output.specs.declared.fixups.FixupTo.{FixupTo}
use Rattle.wl_output.specs.declared.fixups.FixupTo.TheVariants.{Value, Deferred}
use Rattle.wl_plan.specs.declared.layout.LinkPlan.{LinkPlan}
use Rattle.wl_output.specs.declared.entities.OutputImportEntity.TheVariants.{Function}
use Rattle.wl_plan.specs.declared.layout.PlannedGlobal.{PlannedGlobal}
use Rattle.wl_plan.specs.declared.layout.WasmLayout.{WasmLayout}
use Rattle.wl_places.specs.declared.placing.Placing.{Placing}

-- ---- the module

-- a passive segment is there, with any bytes of its length; one that goes into the memory by itself
-- may be dropped
abbrev pub HoldsSegment : SegmentLayout → Option (List ℕ) → Type 0
HoldsSegment l held =
    l.passive ≡ true
    → (bytes : List ℕ) × (held ≡ Some bytes) × (length bytes ≡ length l.payload)

-- a global of 32 bits has a value, and may be set where the plan says so
pub record HoldsWord (w : World) (s : State) (k : ℕ) (p : PlannedGlobal) : Type 0 where
  pub value : ℕ
  pub holds : slice_get s.globals k ≡ Some (I32 value)
  pub mutable : w.is_mutable k ≡ p.global.ty.mutable

-- segments, globals and types are those of the plan: the functions that are imported come first
pub record HoldsPlan (plan : LinkPlan) (w : World) (s : State) : Type 0 where
  pub segments : AllZip HoldsSegment (in_one_row plan.layout.object_data_layouts) s.segments
  pub globals : (k : ℕ) (p : PlannedGlobal) → slice_get plan.layout.globals k ≡ Some p
      → p.global.ty.content_type ≡ I32Type
      → HoldsWord w s (count_by is_global_import plan.layout.imports + k) p
  pub types : (k : ℕ) (f : PlannedFunction) (t : FunctionType)
      → slice_get plan.layout.function_type_indices k ≡ Some f
      → slice_get plan.layout.output_types f.type_index ≡ Some t
      → w.type_of (count_by is_function_import plan.layout.imports + k) ≡ Some t
  pub imported : (k number : ℕ) (i : PlannedImport) (t : FunctionType)
      → slice_get plan.layout.imports k ≡ Some i → i.entity ≡ Function number
      → slice_get plan.layout.output_types number ≡ Some t
      → w.type_of (count_by is_function_import (take k plan.layout.imports)) ≡ Some t

-- ---- functions

-- a function of that origin has this body
pub record HasMadeBody (plan : LinkPlan) (origin : Origin) (b : Body) : Type 0 where
  pub place : ℕ
  pub function : PlannedFunction
  pub here : slice_get plan.layout.function_type_indices place ≡ Some function
  pub origin_is : function.origin ≡ origin
  pub body : slice_get plan.layout.function_bodies place ≡ Some b

-- the parameter is a base at which memory, of 65536 pages at most, has room for a thread's block
pub record HasRoomFor (plan : LinkPlan) (s : State) (base : ℕ) : Type 0 where
  pub is_word : base < 2 ^ 32
  pub pages : length s.memory ≤ MAX_PAGES * WASM_PAGE_SIZE
  pub given : slice_get s.locals 0 ≡ Some (I32 base)
  pub room : base + plan.layout.tls_size ≤ length s.memory

-- ---- what they do

-- the body makes the block of a thread at the base
pub record MakesBlock (input : Input) (g : Placing) (w : World) (s : State) (base : ℕ) (b : Body)
    : Type 0 where
  pub block : ThreadBlock
  pub is_block : IsThreadBlock input g block
  pub after : State
  pub runs : Runs w 0 b.bytes s (Done after)
  pub is_initialized : IsInitialized s base block after

-- the body lays the segments that threads have in common, once, by a flag in the last four bytes of
-- the data
pub record LaysSegments (plan : LinkPlan) (g : Placing) (w : World) (s : State) (b : Body)
    : Type 0 where
  pub flag : ℕ
  pub flag_is : g.places.flag ≡ Some flag
  pub last : flag + 4 ≡ plan.layout.data_end
  pub inits : InitsMemory w s flag (shared_copies g) b.bytes

-- the body makes the calls of the functions that run at the start, in order
pub record CallsConstructors (input : Input) (w : World) (s : State) (b : Body) : Type 0 where
  pub calls : List InitCall
  pub are_calls : AreInitCalls input calls
  pub makes : MakesCalls w s (map called calls) b.bytes

-- the body is that of a wrapper of an export of that name: it calls the constructors, and then what
-- the export leads to, with its own arguments
pub record WrapsFunction (input : Input) (w : World) (s : State) (name : List ℕ) (b : Body)
    : Type 0 where
  pub entry : ExportEntry
  pub one : Contains (wrapped input) entry
  pub name_is : entry.name ≡ name
  pub function : FunctionEntry
  pub leads : entry.entity ≡ OfFunction function
  pub original : ℕ
  pub stands : slice_get (function_space input) original ≡ Some function
  pub constructors : ℕ
  pub are_made : slice_get (function_space input) constructors ≡ Some (FunctionOf (Made CallCtors))
  pub ty : FunctionType
  pub typed : type_of_entry input function ≡ Some ty
  pub wraps : have_types s.locals ty.params ≡ true
      → Wraps w s (wrapped_calls constructors original s) ty b.bytes

-- the export stands there as it is, unless one that comes first has its name
abbrev pub IsExported : Input → List Exported → ExportEntry → Type 0
IsExported input xs e =
    list_any (same_name e) (first_exports input ++ entry_export input) ≡ false
    → (x : Exported) × Contains xs x × IsPlainExport input e x

-- ---- fields that are known when a thread starts

-- the pointer of a fixup whose segment begins there in the block
abbrev pub pointer_to : Fixup → Option ℕ → FixupTo → Option TlsPointerFixup
pointer_to f (Some start) (Deferred offset) =
    Some (record { dest = start + f.position; offset = offset })
pointer_to f (Some start) (Value value left) = None
pointer_to f None to = None

-- the same by the plan alone
abbrev pub pointer_by : WasmLayout → Fixup → Option TlsPointerFixup
pointer_by layout f =
    pointer_to f
    (place_in_block (segment_start (slice_index_or layout.object_data_layouts f.object []) f.unit))
    f.to

-- the fixup takes that place in the block when a thread starts: its pointer lies in the block
pub record IsPointerOf (layout : WasmLayout) (f : Fixup) (offset : ℤ) : Type 0 where
  pub pointer : TlsPointerFixup
  pub is : pointer_by layout f ≡ Some pointer
  pub offset_is : pointer.offset ≡ offset
  pub within : pointer.dest + 4 ≤ layout.tls_size
