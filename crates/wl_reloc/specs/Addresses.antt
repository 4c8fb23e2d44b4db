-- What addresses of data become in fields.
use Rattle.std.specs.Prelude.{ℕ, ℤ, pos, negsuc, ◌+◌, ◌+ℤ◌, ◌-ℤ◌, ◌-◌, ◌^◌, ◌&&◌, Bool, nat_lt, int_le, if◌then◌else◌, List, Option, Some, None, Result, Ok, Err, slice_get}
use Rattle.wl_custom.specs.RelocationTypes.{field_form, has_addend}
use Rattle.wl_custom.specs.declared.relocation_type.FieldForm.{FieldForm}
use Rattle.wl_custom.specs.declared.relocation_type.FieldForm.TheVariants.{PaddedUnsigned, PaddedSigned, Word}
use Rattle.wl_custom.specs.declared.relocation_type.RelocationType.{RelocationType}
use Rattle.wl_custom.specs.declared.relocations.WasmRelocation.{WasmRelocation}
use Rattle.wl_custom.specs.declared.takings.AddressBase.{AddressBase}
use Rattle.wl_custom.specs.declared.takings.AddressBase.TheVariants.{Memory, MemoryBase, ThreadData}
use Rattle.wl_index.specs.declared.data_address.WasmDataAddress.{WasmDataAddress}
use Rattle.wl_index.specs.declared.data_address.WasmDataAddress.TheVariants.{Missing, Placed, Passive, TlsOffset}
use Rattle.wl_reloc.specs.declared.error.RelocError.{RelocError}
use Rattle.wl_reloc.specs.declared.error.RelocError.TheVariants.{Unsupported, Range}
use Rattle.wl_reloc.specs.declared.addresses.AddressBases.{AddressBases}

-- ---- numbers of 32 bits

-- a signed number of 32 bits
abbrev pub is_s32 : ℤ → Bool
is_s32 z = int_le (pos 0 -ℤ pos (2 ^ 31)) z && int_le z (pos (2 ^ 31 - 1))

-- the number, where it is such a one
abbrev pub s32_or_range : ℤ → Result ℤ RelocError
s32_or_range z = if is_s32 z then Ok z else Err Range

-- the word that holds the number: a negative one stands 2^32 higher
abbrev pub word_of : ℤ → ℕ
word_of (pos n) = n
word_of (negsuc n) = 2 ^ 32 - (n + 1)

-- the word of a value, where there is one
abbrev pub as_word : Result ℤ RelocError → Result ℕ RelocError
as_word (Err e) = Err e
as_word (Ok z) = Ok (word_of z)

-- ---- values of addresses

-- an address relative to the start of the thread's data, with what is added to it
abbrev pub behind_thread_data : AddressBases → ℕ → ℤ → Result ℤ RelocError
behind_thread_data b place addend =
    if nat_lt place b.tls_base then Err Range
    else s32_or_range ((pos place -ℤ pos b.tls_base) +ℤ addend)

-- the value of an address, by from where it is counted, and by what is added to it; counted from
-- the start of the memory, the addend is left to be added
abbrev pub address_value : AddressBase → AddressBases → WasmDataAddress → ℤ → Result ℤ RelocError
address_value Memory b Missing addend = Ok (pos 0)
address_value Memory b (Placed place) addend = Ok (pos place)
address_value Memory b Passive addend = Err Unsupported
address_value Memory b (TlsOffset offset) addend = Err Unsupported
address_value MemoryBase b Missing addend = s32_or_range ((pos 0 -ℤ pos b.memory_base) +ℤ addend)
address_value MemoryBase b (Placed place) addend =
    s32_or_range ((pos place -ℤ pos b.memory_base) +ℤ addend)
address_value MemoryBase b Passive addend = Err Unsupported
address_value MemoryBase b (TlsOffset offset) addend = Err Unsupported
address_value ThreadData b Missing addend = Ok (pos 0)
address_value ThreadData b (Placed place) addend = behind_thread_data b place addend
address_value ThreadData b Passive addend = Err Unsupported
address_value ThreadData b (TlsOffset offset) addend = s32_or_range (pos offset +ℤ addend)

-- ---- addresses that are known when a thread starts

-- there is such a place, or it is refused
abbrev pub as_some : Result ℤ RelocError → Result (Option ℤ) RelocError
as_some (Err e) = Err e
as_some (Ok z) = Ok (Some z)

-- what stands in four bytes is stored by the thread; other fields can't be
abbrev pub stored_by_thread : FieldForm → ℤ → Result (Option ℤ) RelocError
stored_by_thread Word z = as_some (s32_or_range z)
stored_by_thread PaddedUnsigned z = Err Unsupported
stored_by_thread PaddedSigned z = Err Unsupported

-- what a field takes of that place: addresses alone name data
abbrev pub deferred_value : RelocationType → ℤ → Result (Option ℤ) RelocError
deferred_value ty z = if has_addend ty then stored_by_thread (field_form ty) z else Ok None

-- of the data that lies in the block of each thread
abbrev pub deferred_at : RelocationType → ℤ → Option WasmDataAddress → Result (Option ℤ) RelocError
deferred_at ty addend (Some (TlsOffset offset)) = deferred_value ty (pos offset +ℤ addend)
deferred_at ty addend (Some Missing) = Ok None
deferred_at ty addend (Some (Placed place)) = Ok None
deferred_at ty addend (Some Passive) = Ok None
deferred_at ty addend None = Ok None

-- the place relative to the start of the block that the field of a relocation takes, by where
-- data lies
abbrev pub deferred_pointer : List WasmDataAddress → WasmRelocation → Result (Option ℤ) RelocError
deferred_pointer addresses r = deferred_at r.ty r.addend (slice_get addresses r.index)
