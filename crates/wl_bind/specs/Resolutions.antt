-- What import slots are resolved to, slot by slot.
use Rattle.std.specs.Prelude.{ℕ, ◌+◌, List, [], ◌∷◌, map, if◌then◌else◌, position, unwrap_or}
use Rattle.std.specs.Option.{option_map_or}
use Rattle.wl_linking.specs.Object.{Object}
use Rattle.wl_custom.specs.declared.symbols.WasmSymbolKind.{WasmSymbolKind}
use Rattle.wl_custom.specs.declared.symbols.WasmSymbolKind.TheVariants.{Func, Data, Global, Section, Event, Table}
use Rattle.wl_symbols.specs.Live.{ordinal_of}
use Rattle.wl_symbols.specs.declared.units.WasmGcUnit.{WasmGcUnit}
use Rattle.wl_symbols.specs.declared.units.WasmGcUnit.TheVariants.{DefinedFunction, DefinedGlobal}
use Rattle.wl_symbols.specs.ImportSlots.{ImportSlot, object_slots, import_slots}
use Rattle.wl_symbols.specs.SlotTargets.{slot_target}
use Rattle.wl_symbols.specs.declared.targets.SlotTarget.{SlotTarget}
use Rattle.wl_symbols.specs.declared.targets.SlotTarget.TheVariants as slot
use Rattle.wl_symbols.specs.Left.{same_field}
use Rattle.wl_symbols.specs.Input.{Input}
use Rattle.wl_symbols.specs.KeptSlots.{is_kept_slot}
use Rattle.wl_bind.specs.FunctionBinding.{link_stubs, binds_function}
use Rattle.wl_bind.specs.GlobalBinding.{binds_global}
use Rattle.wl_bind.specs.declared.binding.FunctionTarget.{FunctionTarget}
use Rattle.wl_bind.specs.declared.binding.FunctionTarget.TheVariants as function
use Rattle.wl_bind.specs.declared.binding.GlobalTarget.{GlobalTarget}
use Rattle.wl_bind.specs.declared.binding.GlobalTarget.TheVariants as global
use Rattle.wl_bind.specs.declared.resolution.ImportResolution.{ImportResolution}
use Rattle.wl_bind.specs.declared.resolution.ImportResolution.TheVariants.{Unresolved, ResolvedFunction, ResolvedGlobal, LinkerDefined, WeakUndefStub, GotMemSlot, GotFuncSlot}
use Rattle.wl_bind.specs.declared.resolution.ObjectImportResolutions.{ObjectImportResolutions}

-- ---- what an object defines: by its number among the kept ones of its kind in its object

-- that number of a unit; what a kept slot is bound to is kept, and has one
abbrev pub kept_number : Input → ℕ → WasmGcUnit → ℕ
kept_number input object unit =
    unwrap_or (ordinal_of input.live (record { object = object; unit = unit })) 0

-- a function of an object
abbrev pub resolved_function : Input → ℕ → ℕ → ImportResolution
resolved_function input object number =
    ResolvedFunction object (kept_number input object (DefinedFunction number))

-- a global of an object
abbrev pub resolved_global : Input → ℕ → ℕ → ImportResolution
resolved_global input object number =
    ResolvedGlobal object (kept_number input object (DefinedGlobal number))

-- ---- by names

-- what names bind a slot of that kind to
abbrev pub resolved : Input → WasmSymbolKind → SlotTarget → ImportResolution
resolved input Func (slot.Defined object number) = resolved_function input object number
resolved input Global (slot.Defined object number) = resolved_global input object number
resolved input Data (slot.Defined object number) = Unresolved
resolved input Section (slot.Defined object number) = Unresolved
resolved input Event (slot.Defined object number) = Unresolved
resolved input Table (slot.Defined object number) = Unresolved
resolved input kind (slot.Made m) = LinkerDefined m

-- what names resolve a slot to, where it is kept: the first three rules
abbrev pub named_resolution : Input → ImportSlot → ImportResolution
named_resolution input t =
    if is_kept_slot input t
    then option_map_or (resolved input t.kind) (slot_target input.link t) Unresolved
    else Unresolved

-- what they resolve the slots of a kind of the object of that number to
abbrev pub named_resolutions : Input → ℕ → WasmSymbolKind → List ImportResolution
named_resolutions input object kind =
    map (named_resolution input) (import_slots input.link.objects object kind)

-- ---- by all rules: the host's slots stay unresolved

-- the place of the stub of the slot's field name
abbrev pub stub_place : Input → ImportSlot → ℕ
stub_place input t = unwrap_or (position (same_field t) (link_stubs input)) 0

-- what a function slot is bound to, as a resolution
abbrev pub as_function : Input → ImportSlot → FunctionTarget → ImportResolution
as_function input t (function.Defined object number) = resolved_function input object number
as_function input t (function.Made m) = LinkerDefined m
as_function input t (function.Host object number) = Unresolved
as_function input t (function.Stub object number) = WeakUndefStub (stub_place input t)

-- what a function slot is resolved to, where it is kept
abbrev pub function_resolution : Input → ImportSlot → ImportResolution
function_resolution input t =
    if is_kept_slot input t then as_function input t (binds_function input t) else Unresolved

-- what a global slot is bound to, as a resolution
abbrev pub as_global : Input → GlobalTarget → ImportResolution
as_global input (global.Defined object number) = resolved_global input object number
as_global input (global.Made m) = LinkerDefined m
as_global input (global.GotMem place) = GotMemSlot place
as_global input (global.GotFunc place) = GotFuncSlot place
as_global input (global.Host object number) = Unresolved

-- what a global slot is resolved to, where it is kept
abbrev pub global_resolution : Input → ImportSlot → ImportResolution
global_resolution input t =
    if is_kept_slot input t then as_global input (binds_global input t) else Unresolved

-- ---- the slots of all objects

-- how each slot of functions and each slot of globals is resolved
pub record Resolving : Type 0 where
  pub functions : ImportSlot → ImportResolution
  pub globals : ImportSlot → ImportResolution

-- the slots of these objects so resolved, the first of which has that number
abbrev pub rows_from : Resolving → ℕ → List Object → List ObjectImportResolutions
rows_from by object [] = []
rows_from by object (o ∷ objects) =
    record {
      function_resolutions = map by.functions (object_slots object Func o);
      global_resolutions = map by.globals (object_slots object Global o);
    } ∷ rows_from by (object + 1) objects

-- by names alone
abbrev pub by_names : Input → Resolving
by_names input = record { functions = named_resolution input; globals = named_resolution input }

-- by names, and by the GOT lists
abbrev pub by_names_and_got : Input → Resolving
by_names_and_got input =
    record { functions = named_resolution input; globals = global_resolution input }

-- by all rules
abbrev pub by_all_rules : Input → Resolving
by_all_rules input =
    record { functions = function_resolution input; globals = global_resolution input }

-- the slots of all objects so resolved
abbrev pub resolutions : Input → Resolving → List ObjectImportResolutions
resolutions input by = rows_from by 0 input.link.objects
