-- What the globals of the output start with.
use Rattle.std.specs.Prelude.{◌≡◌, ℕ, ◌-◌, Bool, true, false, List, [], ◌∷◌, length, drop, nat_lt, if◌then◌else◌, Option, Some, None, find, unwrap_or, Result, Ok, Err, Contains, slice_get}
use Rattle.std.specs.Int.{w32, cast_signed}
use Rattle.std.specs.List.{AllZip}
use Rattle.std.specs.Option.{option_map_or, option_and_then}
use Rattle.wl_bytes.specs.Leb.{AppendsSleb}
use Rattle.wl_index.specs.declared.index.TheConstants.{LINKER_TABLE_BASE}
use Rattle.wl_module.specs.Globals.{DefinedGlobal}
use Rattle.wl_bytes.specs.declared.read_error.Form.TheVariants.{PassiveAddress, TlsAddress}
use Rattle.wl_module.specs.declared.globals.GlobalType.{GlobalType}
use Rattle.wl_module.specs.declared.types.ValType.TheVariants.{I32}
use Rattle.wl_linking.specs.Object.{Object}
use Rattle.wl_custom.specs.Symbols.{Symbol as LinkedSymbol, is_thread_local}
use Rattle.wl_linking.specs.declared.error.LinkError.{LinkError}
use Rattle.wl_linking.specs.declared.error.LinkError.TheVariants.{Unsupported, ConstantRange}
use Rattle.wl_symbols.specs.Entries.{symbol_in}
use Rattle.wl_symbols.specs.declared.entry.Definition.{Definition}
use Rattle.wl_symbols.specs.declared.linker_symbol.WasmLinkerSymbol.{WasmLinkerSymbol}
use Rattle.wl_symbols.specs.declared.linker_symbol.WasmLinkerSymbol.TheVariants as linker
use Rattle.wl_index.specs.declared.data_address.WasmDataAddress.{WasmDataAddress}
use Rattle.wl_index.specs.declared.data_address.WasmDataAddress.TheVariants.{Missing, Placed, Passive, TlsOffset}
use Rattle.wl_bind.specs.GlobalSpace.{GlobalEntry, GlobalOf, AddressOf, DataOf, global_space, host_global_part}
use Rattle.wl_symbols.specs.Input.{Input}
use Rattle.wl_bind.specs.Made.{has_shared_tls, memory_base_value}
use Rattle.wl_bind.specs.Sameness.{same_definition}
use Rattle.wl_bind.specs.Scan.{got_mem, got_func, got_mem_of}
use Rattle.wl_symbols.specs.Relocations.{relocations}
use Rattle.wl_bind.specs.declared.binding.FunctionTarget.{FunctionTarget}
use Rattle.wl_bind.specs.declared.binding.GlobalTarget.TheVariants.{Defined, Made, GotMem, GotFunc, Host}
use Rattle.wl_bind.specs.declared.exported.DataSymbol.{DataSymbol}
use Rattle.wl_symbols.specs.declared.relocated.Relocated.{Relocated}
use Rattle.wl_places.specs.Addresses.{address_of_definition, symbol_address, linker_address}
use Rattle.wl_plan.specs.Table.{slot_of}
use Rattle.wl_output.specs.declared.entities.GlobalOrigin.{GlobalOrigin}
use Rattle.wl_output.specs.declared.entities.GlobalOrigin.TheVariants as origin
use Rattle.wl_output.specs.declared.entities.MadeGlobal.{MadeGlobal}
use Rattle.wl_output.specs.declared.entities.MadeGlobal.TheVariants as word
use Rattle.wl_plan.specs.declared.layout.PlannedGlobal.{PlannedGlobal}
use Rattle.wl_places.specs.declared.placing.Placing.{Placing}

-- ---- constants

-- an i32 that may change, or not
abbrev pub i32_global : Bool → GlobalType
i32_global mutable = record { content_type = I32; mutable = mutable }

-- `i32.const` and the number in its shortest form, as a signed one of 32 bits (core specification,
-- "Numeric Instructions")
abbrev pub IsConstant : ℕ → List ℕ → Type 0
IsConstant number body = AppendsSleb (cast_signed w32 number) (0x41 ∷ []) body

-- the greatest number that is written as it is
abbrev pub max_constant : ℕ
max_constant = 2147483647

-- the number, unless it is above that
abbrev pub constant_or_range : ℕ → Result ℕ LinkError
constant_or_range number =
    if nat_lt max_constant number then Err (ConstantRange number) else Ok number

-- ---- addresses

-- the address of an entry of the GOT list of data, where a refusal names this object; what lies in
-- the block of a thread is set when the thread starts
abbrev pub got_address : ℕ → WasmDataAddress → Result ℕ LinkError
got_address object Missing = Ok 0
got_address object (Placed place) = Ok place
got_address object Passive = Err (Unsupported object PassiveAddress)
got_address object (TlsOffset place) =
    if nat_lt max_constant place then Err (ConstantRange place) else Ok 0

-- a place in the data of a thread, unless it is before that or above the greatest number
abbrev pub own_place : ℕ → ℕ → ℕ → Result ℕ LinkError
own_place object base place =
    if nat_lt place base then Err (Unsupported object TlsAddress)
    else if nat_lt max_constant (place - base) then Err (Unsupported object TlsAddress)
    else Ok (place - base)

-- the address of exported data that all threads have in common
abbrev pub common_address : ℕ → WasmDataAddress → Result ℕ LinkError
common_address object Missing = Ok 0
common_address object (Placed place) = Ok place
common_address object Passive = Err (Unsupported object PassiveAddress)
common_address object (TlsOffset place) = Err (Unsupported object TlsAddress)

-- that of exported data of which each thread has its own: its place there
abbrev pub own_address : Placing → ℕ → WasmDataAddress → Result ℕ LinkError
own_address g object Missing = Ok 0
own_address g object (Placed place) = own_place object g.places.tls_base place
own_address g object Passive = Err (Unsupported object PassiveAddress)
own_address g object (TlsOffset place) = own_place object 0 place

-- the symbol says that each thread has its own of the data
abbrev pub is_own : Input → DataSymbol → Bool
is_own input d =
    option_map_or (λ (s : LinkedSymbol). is_thread_local s)
    (symbol_in input.link.objects d.object d.symbol) false

-- the address of exported data
abbrev pub exported_address : Input → Placing → DataSymbol → Result ℕ LinkError
exported_address input g d =
    if is_own input d then own_address g d.object (symbol_address input g d.object d.symbol)
    else common_address d.object (symbol_address input g d.object d.symbol)

-- ---- what globals start with

-- the object of the first kept relocation that asks for the entry of that definition
abbrev pub first_asking : Input → Definition → ℕ
first_asking input d =
    option_map_or (λ (r : Relocated). r.object)
    (find (λ (r : Relocated). option_map_or (same_definition d) (got_mem_of input r) false)
    (relocations input)) 0

-- the address of what this entry of the GOT list of data stands for
abbrev pub got_mem_start : Input → Placing → Option Definition → Result ℕ LinkError
got_mem_start input g None = Ok 0
got_mem_start input g (Some d) =
    got_address (first_asking input d) (address_of_definition input g d)

-- the slot of the function of this entry of the GOT list of functions
abbrev pub got_func_start : Input → Option (Definition × FunctionTarget) → Result ℕ LinkError
got_func_start input None = Ok 0
got_func_start input (Some p) = constant_or_range (unwrap_or (slot_of input p.1) 0)

-- what the linker makes under a name
abbrev pub made_start : Input → Placing → WasmLinkerSymbol → Result ℕ LinkError
made_start input g linker.MemoryBase = Ok (memory_base_value input)
made_start input g linker.TableBase = Ok LINKER_TABLE_BASE
made_start input g linker.StackPointer = Ok g.stack_pointer
made_start input g linker.TlsBase = Ok (if has_shared_tls input then 0 else g.places.tls_base)
made_start input g linker.TlsSize = constant_or_range g.places.tls_size
made_start input g linker.TlsAlign = constant_or_range g.places.tls_align
made_start input g m = Ok 0

-- the number that a global of the output starts with, or why it can't; those of objects have their
-- own, and imported ones none
abbrev pub start_of_global : Input → Placing → GlobalEntry → Result ℕ LinkError
start_of_global input g (GlobalOf (Defined object global)) = Ok 0
start_of_global input g (GlobalOf (Made m)) = made_start input g m
start_of_global input g (GlobalOf (GotMem place)) =
    got_mem_start input g (slice_get (got_mem input) place)
start_of_global input g (GlobalOf (GotFunc place)) =
    got_func_start input (slice_get (got_func input) place)
start_of_global input g (GlobalOf (Host object slot)) = Ok 0
start_of_global input g (AddressOf m) = Ok (unwrap_or (linker_address input g m) 0)
start_of_global input g (DataOf d) = exported_address input g d

-- ---- which may change

-- the address is in the block of a thread
abbrev pub is_in_block : WasmDataAddress → Bool
is_in_block Missing = false
is_in_block (Placed place) = false
is_in_block Passive = false
is_in_block (TlsOffset place) = true

-- the stack pointer may change, and where threads have blocks their base, and addresses in them
abbrev pub may_change : Input → Placing → GlobalEntry → Bool
may_change input g (GlobalOf (Made linker.StackPointer)) = true
may_change input g (GlobalOf (Made linker.TlsBase)) = has_shared_tls input
may_change input g (GlobalOf (GotMem place)) =
    option_map_or (λ d. is_in_block (address_of_definition input g d))
    (slice_get (got_mem input) place) false
may_change input g entry = false

-- ---- where globals are from

-- what a thing of the linker's is reported as
abbrev pub word_of_made : WasmLinkerSymbol → MadeGlobal
word_of_made linker.MemoryBase = word.MemoryBase
word_of_made linker.TableBase = word.TableBase
word_of_made linker.StackPointer = word.StackPointer
word_of_made linker.TlsBase = word.TlsBase
word_of_made linker.TlsSize = word.TlsSize
word_of_made linker.TlsAlign = word.TlsAlign
word_of_made m = word.Address

-- where a global is from
abbrev pub origin_of_global : GlobalEntry → GlobalOrigin
origin_of_global (GlobalOf (Defined object global)) = origin.Object object global
origin_of_global (GlobalOf (Made m)) = origin.Made (word_of_made m)
origin_of_global (GlobalOf (GotMem place)) = origin.Made word.GotMem
origin_of_global (GlobalOf (GotFunc place)) = origin.Made word.GotFunc
origin_of_global (GlobalOf (Host object slot)) = origin.Object object slot
origin_of_global (AddressOf m) = origin.Made word.Address
origin_of_global (DataOf d) = origin.Made word.Data

-- ---- the globals

-- the global of that number that the object of that number defines
abbrev pub global_in : List Object → ℕ → ℕ → Option DefinedGlobal
global_in objects object number =
    option_and_then (λ (o : Object). slice_get o.globals number) (slice_get objects object)

-- a constant that the linker makes for the entry
pub record IsMadeGlobal (input : Input) (g : Placing) (entry : GlobalEntry) (made : DefinedGlobal)
    : Type 0 where
  pub number : ℕ
  pub starts : start_of_global input g entry ≡ Ok number
  pub ty : made.ty ≡ i32_global (may_change input g entry)
  pub body : IsConstant number made.body
  pub owned : made.owned ≡ true

-- what an object defines is as that has it, and the linker makes all else
abbrev pub IsGlobalOf : Input → Placing → GlobalEntry → DefinedGlobal → Type 0
IsGlobalOf input g (GlobalOf (Defined object global)) made =
    global_in input.link.objects object global ≡ Some made
IsGlobalOf input g entry made = IsMadeGlobal input g entry made

-- the global is that entry
pub record IsPlannedGlobal (input : Input) (g : Placing) (entry : GlobalEntry) (p : PlannedGlobal)
    : Type 0 where
  pub origin_is : p.origin ≡ origin_of_global entry
  pub global_is : IsGlobalOf input g entry p.global

-- the global space after the imports
abbrev pub own_globals : Input → List GlobalEntry
own_globals input = drop (length (host_global_part input)) (global_space input)

-- the globals are those of the space, in order
abbrev pub ArePlannedGlobals : Input → Placing → List PlannedGlobal → Type 0
ArePlannedGlobals input g globals = AllZip (IsPlannedGlobal input g) (own_globals input) globals

-- a global of the space can't start
pub record IsGlobalFault (input : Input) (g : Placing) (e : LinkError) : Type 0 where
  pub entry : GlobalEntry
  pub one : Contains (own_globals input) entry
  pub fault : start_of_global input g entry ≡ Err e
