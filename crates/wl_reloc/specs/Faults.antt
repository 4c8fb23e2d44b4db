-- Why the field of a relocation has no value: the cause of each refusal (object file linking,
-- version 2, "Relocation Sections"), by where the things of its object stand in the output.
use Rattle.std.specs.Prelude.{◌≡◌, ◌≢◌, ◌⊎◌, ℕ, ◌≤◌, ◌<◌, pos, ◌+ℤ◌, ◌-ℤ◌, Bool, true, false, List, length, Some, None, slice_get}
use Rattle.wl_custom.specs.RelocationTypes.{taking_of, field_form, names_a_type, has_addend, takes_kind, is_global_index, is_table_index}
use Rattle.wl_custom.specs.Symbols.{Symbol, is_function, is_data, is_global}
use Rattle.wl_custom.specs.declared.relocation_type.FieldForm.TheVariants.{Word}
use Rattle.wl_custom.specs.declared.relocation_type.RelocationType.{RelocationType}
use Rattle.wl_custom.specs.declared.relocations.WasmRelocation.{WasmRelocation}
use Rattle.wl_custom.specs.declared.symbols.WasmSymbolKind.{WasmSymbolKind}
use Rattle.wl_custom.specs.declared.takings.AddressBase.{AddressBase}
use Rattle.wl_custom.specs.declared.takings.AddressBase.TheVariants.{Memory, MemoryBase, ThreadData}
use Rattle.wl_custom.specs.declared.takings.Taking.{Taking}
use Rattle.wl_custom.specs.declared.takings.Taking.TheVariants.{FunctionIndex, Slot, SlotBehindBase, Address}
use Rattle.wl_index.specs.declared.data_address.WasmDataAddress.{WasmDataAddress}
use Rattle.wl_index.specs.declared.data_address.WasmDataAddress.TheVariants.{Missing, Placed, Passive, TlsOffset}
use Rattle.wl_index.specs.declared.index.TheConstants.{WASM_DEAD_INDEX}
use Rattle.wl_reloc.specs.Addresses.{is_s32}
use Rattle.wl_reloc.specs.Resolving.{Resolver, symbol_named}
use Rattle.wl_reloc.specs.declared.error.RelocError.{RelocError}
use Rattle.wl_reloc.specs.declared.error.RelocError.TheVariants.{OutOfRange, Removed, WrongKind, NoSlot, NoGot, Unsupported, Range}

-- ---- what it names

-- the index or the slot of the function that a symbol leads to
abbrev pub is_of_function : Taking → Bool
is_of_function FunctionIndex = true
is_of_function Slot = true
is_of_function SlotBehindBase = true
is_of_function _ = false

-- its type takes the index or the slot of a function
abbrev pub takes_function : RelocationType → Bool
takes_function ty = is_of_function (taking_of ty)

-- it names a symbol of such a kind
pub record NamesKind (by : Resolver) (r : WasmRelocation) (is_kind : WasmSymbolKind → Bool)
    : Type 0 where
  pub symbol : Symbol
  pub named : symbol_named by r ≡ Some symbol
  pub kind_is : is_kind symbol.kind ≡ true

-- its type takes an address that is counted from there, and the data that it names has that one
pub record TakesAddress (by : Resolver) (r : WasmRelocation) (base : AddressBase)
    (address : WasmDataAddress) : Type 0 where
  pub takes : taking_of r.ty ≡ Address base
  pub names : NamesKind by r is_data
  pub lies : slice_get by.map.data_addresses r.index ≡ Some address

-- the list of slots has none for the function of that index: it ends before it, or has 4294967295
abbrev pub LacksSlot : List ℕ → ℕ → Type 0
LacksSlot slots index = (length slots ≤ index) ⊎ (slice_get slots index ≡ Some WASM_DEAD_INDEX)

-- ---- the causes

-- OutOfRange: its number, or of a global symbol that of the global, is past the end of its list
pub data IsPastEnd (by : Resolver) (r : WasmRelocation) : Type 0 where
  past_types : names_a_type r.ty ≡ true → length by.map.type_indices ≤ r.index → IsPastEnd by r
  past_symbols : names_a_type r.ty ≡ false → length by.symbols ≤ r.index → IsPastEnd by r
  past_functions : takes_function r.ty ≡ true → NamesKind by r is_function
      → length by.map.function_symbol_redirects ≤ r.index → IsPastEnd by r
  past_globals : is_global_index r.ty ≡ true → (names : NamesKind by r is_global)
      → length by.map.global_indices ≤ names.symbol.index → IsPastEnd by r
  past_got_mem : is_global_index r.ty ≡ true → NamesKind by r is_data
      → length by.map.got_mem_globals ≤ r.index → IsPastEnd by r
  past_got_func : is_global_index r.ty ≡ true → NamesKind by r is_function
      → length by.map.got_func_globals ≤ r.index → IsPastEnd by r
  past_addresses : has_addend r.ty ≡ true → NamesKind by r is_data
      → length by.map.data_addresses ≤ r.index → IsPastEnd by r

-- Removed: the map has 4294967295 for its type or global, or no function for its symbol
pub data IsRemoved (by : Resolver) (r : WasmRelocation) : Type 0 where
  no_type : names_a_type r.ty ≡ true
      → slice_get by.map.type_indices r.index ≡ Some WASM_DEAD_INDEX → IsRemoved by r
  no_global : is_global_index r.ty ≡ true → (names : NamesKind by r is_global)
      → slice_get by.map.global_indices names.symbol.index ≡ Some WASM_DEAD_INDEX → IsRemoved by r
  no_function : takes_function r.ty ≡ true → NamesKind by r is_function
      → slice_get by.map.function_symbol_redirects r.index ≡ Some None → IsRemoved by r

-- WrongKind: it names a symbol of a kind that its type doesn't take
pub record IsOfWrongKind (by : Resolver) (r : WasmRelocation) : Type 0 where
  pub symbol : Symbol
  pub names : names_a_type r.ty ≡ false
  pub named : symbol_named by r ≡ Some symbol
  pub wrong : takes_kind r.ty symbol.kind ≡ false

-- NoSlot: its type takes the slot of the function that its symbol leads to, which has none
pub record HasNoSlot (by : Resolver) (r : WasmRelocation) : Type 0 where
  pub index : ℕ
  pub takes : is_table_index r.ty ≡ true
  pub names : NamesKind by r is_function
  pub leads : slice_get by.map.function_symbol_redirects r.index ≡ Some (Some index)
  pub lacks : LacksSlot by.slots index

-- NoGot: its type takes a global, and the map has none for its data or its function
pub data HasNoGot (by : Resolver) (r : WasmRelocation) : Type 0 where
  no_got_mem : is_global_index r.ty ≡ true → NamesKind by r is_data
      → slice_get by.map.got_mem_globals r.index ≡ Some None → HasNoGot by r
  no_got_func : is_global_index r.ty ≡ true → NamesKind by r is_function
      → slice_get by.map.got_func_globals r.index ≡ Some None → HasNoGot by r

-- Unsupported: its data has no address, or has one in the block of each thread, which isn't counted
-- from the start of the memory nor from the memory's base
pub data HasNoRule (by : Resolver) (r : WasmRelocation) : Type 0 where
  passive : (base : AddressBase) → TakesAddress by r base Passive → HasNoRule by r
  block_in_memory : (offset : ℕ) → TakesAddress by r Memory (TlsOffset offset) → HasNoRule by r
  block_by_base : (offset : ℕ) → TakesAddress by r MemoryBase (TlsOffset offset) → HasNoRule by r

-- Range: an address counted from a base, with the addend, isn't from -2147483648 to 2147483647, or
-- it stands before the data of the thread, from where it is counted
pub data IsOutOfRange (by : Resolver) (r : WasmRelocation) : Type 0 where
  missing_by_base : TakesAddress by r MemoryBase Missing
      → is_s32 ((pos 0 -ℤ pos by.bases.memory_base) +ℤ r.addend) ≡ false → IsOutOfRange by r
  placed_by_base : (place : ℕ) → TakesAddress by r MemoryBase (Placed place)
      → is_s32 ((pos place -ℤ pos by.bases.memory_base) +ℤ r.addend) ≡ false → IsOutOfRange by r
  before_thread_data : (place : ℕ) → TakesAddress by r ThreadData (Placed place)
      → place < by.bases.tls_base → IsOutOfRange by r
  in_thread_data : (place : ℕ) → TakesAddress by r ThreadData (Placed place)
      → is_s32 ((pos place -ℤ pos by.bases.tls_base) +ℤ r.addend) ≡ false → IsOutOfRange by r
  in_block : (offset : ℕ) → TakesAddress by r ThreadData (TlsOffset offset)
      → is_s32 (pos offset +ℤ r.addend) ≡ false → IsOutOfRange by r

-- the cause of each refusal
abbrev pub IsRelocFault : Resolver → WasmRelocation → RelocError → Type 0
IsRelocFault by r OutOfRange = IsPastEnd by r
IsRelocFault by r Removed = IsRemoved by r
IsRelocFault by r WrongKind = IsOfWrongKind by r
IsRelocFault by r NoSlot = HasNoSlot by r
IsRelocFault by r NoGot = HasNoGot by r
IsRelocFault by r Unsupported = HasNoRule by r
IsRelocFault by r Range = IsOutOfRange by r

-- ---- addresses that are known when a thread starts

-- its type takes an address, and what it names lies at that place of the block of each thread
pub record PointsIntoBlock (addresses : List WasmDataAddress) (r : WasmRelocation) (offset : ℕ)
    : Type 0 where
  pub takes : has_addend r.ty ≡ true
  pub lies : slice_get addresses r.index ≡ Some (TlsOffset offset)

-- Unsupported: such a place can be stored in four bytes alone, and its field has another form
pub record HasOtherForm (addresses : List WasmDataAddress) (r : WasmRelocation) : Type 0 where
  pub offset : ℕ
  pub points : PointsIntoBlock addresses r offset
  pub form : field_form r.ty ≢ Word

-- Range: its field has four bytes, and the place, with the addend, isn't from -2147483648 to
-- 2147483647
pub record PointsTooFar (addresses : List WasmDataAddress) (r : WasmRelocation) : Type 0 where
  pub offset : ℕ
  pub points : PointsIntoBlock addresses r offset
  pub form : field_form r.ty ≡ Word
  pub out : is_s32 (pos offset +ℤ r.addend) ≡ false

-- the cause of each refusal of a place in the block; others don't come
abbrev pub IsPointerFault : List WasmDataAddress → WasmRelocation → RelocError → Type 0
IsPointerFault addresses r Unsupported = HasOtherForm addresses r
IsPointerFault addresses r Range = PointsTooFar addresses r
IsPointerFault addresses r OutOfRange = ⊥
IsPointerFault addresses r Removed = ⊥
IsPointerFault addresses r WrongKind = ⊥
IsPointerFault addresses r NoSlot = ⊥
IsPointerFault addresses r NoGot = ⊥
