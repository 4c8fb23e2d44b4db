-- What the field of a relocation takes, by where the things of its object stand in the output.
use Rattle.std.specs.Prelude.{ℕ, ℤ, ◌-◌, ◌==◌, if◌then◌else◌, List, Option, Some, None, Result, Ok, Err, slice_get}
use Rattle.wl_custom.specs.RelocationTypes.{taking_of}
use Rattle.wl_custom.specs.Symbols.{Symbol, is_function, is_data, is_table}
use Rattle.wl_custom.specs.declared.relocations.WasmRelocation.{WasmRelocation}
use Rattle.wl_custom.specs.declared.symbols.WasmSymbolKind.{WasmSymbolKind}
use Rattle.wl_custom.specs.declared.symbols.WasmSymbolKind.TheVariants.{Func, Data, Global, Section, Event, Table}
use Rattle.wl_custom.specs.declared.takings.AddressBase.{AddressBase}
use Rattle.wl_custom.specs.declared.takings.Taking.{Taking}
use Rattle.wl_custom.specs.declared.takings.Taking.TheVariants.{FunctionIndex, Slot, SlotBehindBase, TypeIndex, GlobalIndex, TableNumber, Address}
use Rattle.wl_index.specs.declared.data_address.WasmDataAddress.{WasmDataAddress}
use Rattle.wl_index.specs.declared.index.TheConstants.{WASM_DEAD_INDEX, LINKER_TABLE_BASE}
use Rattle.wl_reloc.specs.Addresses.{address_value, as_word}
use Rattle.wl_reloc.specs.declared.addresses.AddressBases.{AddressBases}
use Rattle.wl_reloc.specs.declared.error.RelocError.{RelocError}
use Rattle.wl_reloc.specs.declared.error.RelocError.TheVariants.{OutOfRange, Removed, WrongKind, NoSlot, NoGot}
use Rattle.wl_index.specs.declared.index_map.WasmObjectIndexMap.{WasmObjectIndexMap}

-- ---- lists

-- an index of a list: past the end; of what the output doesn't have; or the index
abbrev pub kept_index : Option ℕ → Result ℕ RelocError
kept_index None = Err OutOfRange
kept_index (Some index) = if index == WASM_DEAD_INDEX then Err Removed else Ok index

-- the function that a symbol leads to, by a list that says none where the output doesn't have it
abbrev pub redirect : Option (Option ℕ) → Result ℕ RelocError
redirect None = Err OutOfRange
redirect (Some None) = Err Removed
redirect (Some (Some index)) = Ok index

-- the global that holds an address or a slot, by a list that says none where there is none
abbrev pub got_global : Option (Option ℕ) → Result ℕ RelocError
got_global None = Err OutOfRange
got_global (Some None) = Err NoGot
got_global (Some (Some index)) = Ok index

-- the slot of a function, by a list of which 4294967295 is none
abbrev pub slot_in : Option ℕ → Result ℕ RelocError
slot_in None = Err NoSlot
slot_in (Some slot) = if slot == WASM_DEAD_INDEX then Err NoSlot else Ok slot

-- ---- what symbols stand for

-- what is known beside the relocation: the maps of its object, its symbols, the slots of functions
-- by their indices, and from where addresses are counted
pub record Resolver : Type 0 where
  pub map : WasmObjectIndexMap
  pub symbols : List Symbol
  pub slots : List ℕ
  pub bases : AddressBases

-- the index of the function that a symbol of that kind and number leads to
abbrev pub function_index : Resolver → WasmSymbolKind → ℕ → Result ℕ RelocError
function_index by kind number =
    if is_function kind then redirect (slice_get by.map.function_symbol_redirects number)
    else Err WrongKind

-- the slot of a function that has an index
abbrev pub slot_of : Resolver → Result ℕ RelocError → Result ℕ RelocError
slot_of by (Err e) = Err e
slot_of by (Ok index) = slot_in (slice_get by.slots index)

-- that slot after the first one, which holds no function; 0 for what has none
abbrev pub behind_first : Result ℕ RelocError → Result ℕ RelocError
behind_first (Err e) = Err e
behind_first (Ok slot) = Ok (slot - LINKER_TABLE_BASE)

-- the index of a global symbol's global, or of that which holds the address or the slot of another
-- symbol
abbrev pub global_index : Resolver → WasmSymbolKind → ℕ → ℕ → Result ℕ RelocError
global_index by Global number index = kept_index (slice_get by.map.global_indices index)
global_index by Data number index = got_global (slice_get by.map.got_mem_globals number)
global_index by Func number index = got_global (slice_get by.map.got_func_globals number)
global_index by Section number index = Err WrongKind
global_index by Event number index = Err WrongKind
global_index by Table number index = Err WrongKind

-- the number of the table
abbrev pub table_number : WasmSymbolKind → Result ℕ RelocError
table_number kind = if is_table kind then Ok 0 else Err WrongKind

-- the address of data that has one, under that addend
abbrev pub address_in : Resolver → AddressBase → ℤ → Option WasmDataAddress → Result ℕ RelocError
address_in by base addend None = Err OutOfRange
address_in by base addend (Some address) = as_word (address_value base by.bases address addend)

-- the address of a symbol of that kind and number
abbrev pub address_of : Resolver → AddressBase → ℤ → WasmSymbolKind → ℕ → Result ℕ RelocError
address_of by base addend kind number =
    if is_data kind then address_in by base addend (slice_get by.map.data_addresses number)
    else Err WrongKind

-- ---- relocations

-- the symbol that it names, if there is one of its number
abbrev pub symbol_named : Resolver → WasmRelocation → Option Symbol
symbol_named by r = slice_get by.symbols r.index

-- what is taken of a symbol, if there is one
abbrev pub taken_of : (Symbol → Result ℕ RelocError) → Option Symbol → Result ℕ RelocError
taken_of take None = Err OutOfRange
taken_of take (Some s) = take s

-- what a relocation takes of the symbol that it names, or of the type
abbrev pub taken : Resolver → WasmRelocation → Taking → Result ℕ RelocError
taken by r FunctionIndex =
    taken_of (λ s. function_index by s.kind r.index) (symbol_named by r)
taken by r Slot =
    taken_of (λ s. slot_of by (function_index by s.kind r.index)) (symbol_named by r)
taken by r SlotBehindBase =
    taken_of (λ s. behind_first (slot_of by (function_index by s.kind r.index))) (symbol_named by r)
taken by r TypeIndex = kept_index (slice_get by.map.type_indices r.index)
taken by r GlobalIndex =
    taken_of (λ s. global_index by s.kind r.index s.index) (symbol_named by r)
taken by r TableNumber = taken_of (λ s. table_number s.kind) (symbol_named by r)
taken by r (Address base) =
    taken_of (λ s. address_of by base r.addend s.kind r.index) (symbol_named by r)

-- what the field of a relocation takes, or why it has no value
abbrev pub resolved : Resolver → WasmRelocation → Result ℕ RelocError
resolved by r = taken by r (taking_of r.ty)
