-- While the things of objects are numbered.
use Rattle.std.specs.Prelude.{◌≡◌, ◌≤◌, ℕ, ◌+◌, true, false, List, map, Option, Some, None, unwrap_or, slice_get, ⊤}
use Rattle.std.specs.List.{range_with_len}
use Rattle.wl_linking.specs.Object.{Object}
use Rattle.wl_custom.specs.declared.symbols.WasmSymbolKind.{WasmSymbolKind}
use Rattle.wl_custom.specs.declared.symbols.WasmSymbolKind.TheVariants.{Func, Data, Global, Section, Event, Table}
use Rattle.wl_symbols.specs.LinkerNames.{kind_of}
use Rattle.wl_symbols.specs.declared.linker_symbol.WasmLinkerSymbol.{WasmLinkerSymbol}
use Rattle.wl_symbols.specs.Live.{ordinal_of}
use Rattle.wl_symbols.specs.declared.units.WasmGcUnit.{WasmGcUnit}
use Rattle.wl_symbols.specs.ImportSlots.{ImportSlot}
use Rattle.wl_index.specs.declared.index.TheConstants.{WASM_DEAD_INDEX, MAX_ENTRIES}
use Rattle.wl_bind.specs.FunctionSpace.{stub_part, function_space, local_functions}
use Rattle.wl_bind.specs.GlobalSpace.{GlobalOf, global_space, local_globals}
use Rattle.wl_symbols.specs.Input.{Input}
use Rattle.wl_symbols.specs.KeptSlots.{is_kept_slot}
use Rattle.wl_bind.specs.Made.{is_made}
use Rattle.wl_bind.specs.MadeIndices.{StandsAt}
use Rattle.wl_bind.specs.steps.OwnIndices.{own_unit, own_index}
use Rattle.wl_bind.specs.Parts.{HasEntry, AreIndicesOf}
use Rattle.wl_bind.specs.Resolutions.{function_resolution, global_resolution}
use Rattle.wl_bind.specs.Shared.{place_at}
use Rattle.wl_bind.specs.declared.binding.GlobalTarget.TheVariants as global
use Rattle.wl_bind.specs.declared.numbering.Numbering.{Numbering}
use Rattle.wl_bind.specs.declared.own_indices.Own.{Own}
use Rattle.wl_bind.specs.declared.own_indices.Own.TheVariants.{Functions, Globals}
use Rattle.wl_bind.specs.declared.resolution.ImportResolution.{ImportResolution}
use Rattle.wl_bind.specs.declared.resolution.ImportResolution.TheVariants.{Unresolved, ResolvedFunction, ResolvedGlobal, LinkerDefined, WeakUndefStub, GotMemSlot, GotFuncSlot}
use Rattle.wl_bind.specs.declared.resolution.ObjectImportResolutions.{ObjectImportResolutions}

-- ---- functions or globals

-- what the slots of that kind of an object are resolved to
abbrev pub row_part : Own → ObjectImportResolutions → List ImportResolution
row_part Functions row = row.function_resolutions
row_part Globals row = row.global_resolutions

-- the first index of each object
abbrev pub firsts_of : Numbering → Own → List ℕ
firsts_of n Functions = n.function_firsts.items
firsts_of n Globals = n.global_firsts.items

-- the indices of the functions, or of the globals, of an object
abbrev pub AreObjectIndices : Input → Own → ℕ → Object → List ℕ → Type 0
AreObjectIndices input Functions object o =
    AreIndicesOf (function_space input) (local_functions input object o)
AreObjectIndices input Globals object o =
    AreIndicesOf (global_space input) (local_globals input object o)

-- ---- what objects define

-- the object has a first index, and there is room for that number after it
pub record HasRoom (firsts : List ℕ) (object n : ℕ) : Type 0 where
  pub first : ℕ
  pub first_is : slice_get firsts object ≡ Some first
  pub room : first + n ≤ MAX_ENTRIES

-- that number past the first index of the object
abbrev pub behind_first : List ℕ → ℕ → ℕ → ℕ
behind_first firsts object n = unwrap_or (slice_get firsts object) 0 + n

-- there is room for each kept unit of the object
abbrev pub FitsOwn : Input → List ℕ → ℕ → WasmGcUnit → Type 0
FitsOwn input firsts object unit =
    (n : ℕ) → ordinal_of input.live (record { object = object; unit = unit }) ≡ Some n
    → HasRoom firsts object n

-- the indices of so many things that an object defines
abbrev pub own_indices_of : Input → Own → List ℕ → ℕ → ℕ → List ℕ
own_indices_of input own firsts object count =
    map (λ k. own_index input firsts object (own_unit own k)) (range_with_len 0 count)

-- ---- what import slots are resolved to

-- the place has room
abbrev pub FitsPlace : Option ℕ → Type 0
FitsPlace None = ⊤
FitsPlace (Some place) = place ≤ MAX_ENTRIES

-- there is an index for what a slot is resolved to, for which the host's import has that place
abbrev pub HasIndex : Numbering → Option ℕ → ImportResolution → Type 0
HasIndex n host Unresolved = FitsPlace host
HasIndex n host (ResolvedFunction i k) = HasRoom n.function_firsts.items i k
HasIndex n host (ResolvedGlobal i k) = HasRoom n.global_firsts.items i k
HasIndex n host (LinkerDefined m) = ⊤
HasIndex n host (WeakUndefStub place) = HasEntry n.indices.now.functions 4 place
HasIndex n host (GotMemSlot place) = HasEntry n.indices.now.globals 8 place
HasIndex n host (GotFuncSlot place) = HasEntry n.indices.now.globals 9 place

-- what the linker makes stands there, if the output has it
abbrev pub IsIndexOfMade : Input → WasmLinkerSymbol → ℕ → Type 0
IsIndexOfMade input m index = is_made input m ≡ true → StandsAt input m (kind_of m) index

-- the index of what a slot is resolved to, for which the host's import has that place
abbrev pub IsResolvedIndex : Numbering → Option ℕ → ImportResolution → ℕ → Type 0
IsResolvedIndex n host Unresolved index = index ≡ unwrap_or host WASM_DEAD_INDEX
IsResolvedIndex n host (ResolvedFunction i k) index =
    index ≡ behind_first n.function_firsts.items i k
IsResolvedIndex n host (ResolvedGlobal i k) index =
    index ≡ behind_first n.global_firsts.items i k
IsResolvedIndex n host (LinkerDefined m) index = IsIndexOfMade n.input.now m index
IsResolvedIndex n host (WeakUndefStub place) index =
    slice_get (function_space n.input.now) index ≡ slice_get (stub_part n.input.now) place
IsResolvedIndex n host (GotMemSlot place) index =
    slice_get (global_space n.input.now) index ≡ Some (GlobalOf (global.GotMem place))
IsResolvedIndex n host (GotFuncSlot place) index =
    slice_get (global_space n.input.now) index ≡ Some (GlobalOf (global.GotFunc place))

-- the place of the host's import for a slot of that kind
abbrev pub host_place : Numbering → WasmSymbolKind → ImportSlot → Option ℕ
host_place n kind t = place_at n.shared.now kind t.object t.number

-- what a slot of that kind is resolved to by all rules
abbrev pub resolution_of : Input → WasmSymbolKind → ImportSlot → ImportResolution
resolution_of input Func t = function_resolution input t
resolution_of input Global t = global_resolution input t
resolution_of input Data t = Unresolved
resolution_of input Section t = Unresolved
resolution_of input Event t = Unresolved
resolution_of input Table t = Unresolved

-- there is an index for a slot that is kept
abbrev pub HasSlotIndex : Numbering → WasmSymbolKind → ImportSlot → Type 0
HasSlotIndex n kind t =
    is_kept_slot n.input.now t ≡ true
    → HasIndex n (host_place n kind t) (resolution_of n.input.now kind t)

-- there is one for each of these slots that is kept
abbrev pub HaveSlotIndices : Numbering → WasmSymbolKind → List ImportSlot → Type 0
HaveSlotIndices n kind slots =
    (k : ℕ) (t : ImportSlot) → slice_get slots k ≡ Some t → HasSlotIndex n kind t

-- the index of a slot; 4294967295 where it isn't kept
pub record IsSlotIndex (n : Numbering) (kind : WasmSymbolKind) (t : ImportSlot) (index : ℕ)
    : Type 0 where
  pub kept : is_kept_slot n.input.now t ≡ true
      → IsResolvedIndex n (host_place n kind t) (resolution_of n.input.now kind t) index
  pub dead : is_kept_slot n.input.now t ≡ false → index ≡ WASM_DEAD_INDEX
