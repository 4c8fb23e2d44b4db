-- What the kept relocations become (object file linking, version 2, "Relocation Sections").
use Rattle.std.specs.Prelude.{◌≡◌, ◌⊎◌, ℕ, ℤ, pos, ◌+ℤ◌, ◌-ℤ◌, ◌-◌, List, option_map, Option, Some, None, Result, Ok, Err, Contains, slice_get}
use Rattle.std.specs.List.{AllZip}
use Rattle.std.specs.Option.{option_and_then}
use Rattle.wl_index.specs.declared.index.TheConstants.{LINKER_TABLE_BASE}
use Rattle.wl_module.specs.Types.{FunctionType}
use Rattle.wl_bytes.specs.declared.read_error.Form.TheVariants.{PassiveAddress, TlsAddress}
use Rattle.wl_linking.specs.Object.{Object}
use Rattle.wl_custom.specs.RelocationTypes.{taking_of}
use Rattle.wl_custom.specs.Symbols.{Symbol as LinkedSymbol}
use Rattle.wl_linking.specs.declared.error.LinkError.{LinkError}
use Rattle.wl_linking.specs.declared.error.LinkError.TheVariants.{Unsupported, RelocationRange}
use Rattle.wl_index.specs.declared.data_address.WasmDataAddress.{WasmDataAddress}
use Rattle.wl_index.specs.declared.data_address.WasmDataAddress.TheVariants.{Missing, Placed, Passive, TlsOffset}
use Rattle.wl_reloc.specs.Addresses.{address_value, word_of}
use Rattle.wl_reloc.specs.declared.addresses.AddressBases.{AddressBases}
use Rattle.wl_reloc.specs.declared.error.RelocError.{RelocError}
use Rattle.wl_reloc.specs.declared.error.RelocError.TheVariants as reloc
use Rattle.wl_custom.specs.declared.takings.AddressBase.{AddressBase}
use Rattle.wl_custom.specs.declared.takings.AddressBase.TheVariants.{Memory, MemoryBase, ThreadData}
use Rattle.wl_custom.specs.declared.takings.Taking.{Taking}
use Rattle.wl_custom.specs.declared.takings.Taking.TheVariants.{FunctionIndex, Slot, SlotBehindBase, TypeIndex, GlobalIndex, TableNumber, Address}
use Rattle.wl_bind.specs.FunctionSpace.{function_space}
use Rattle.wl_bind.specs.FunctionSymbols.{fun}
use Rattle.wl_bind.specs.GlobalSpace.{GlobalEntry, global_space}
use Rattle.wl_bind.specs.IndexMaps.{symbol_function}
use Rattle.wl_symbols.specs.Input.{Input}
use Rattle.wl_bind.specs.OutputTypes.{output_types}
use Rattle.wl_bind.specs.References.{live_type, symbol_global}
use Rattle.wl_symbols.specs.Relocations.{relocations}
use Rattle.wl_symbols.specs.declared.relocated.Relocated.{Relocated}
use Rattle.wl_plan.specs.Bodies.{IsMovedIn}
use Rattle.wl_plan.specs.Table.{slot_of}
use Rattle.wl_plan.specs.Threads.{address_named, bases_of, pointer_named}
use Rattle.wl_output.specs.declared.fixups.Fixup.{Fixup}
use Rattle.wl_output.specs.declared.fixups.FixupTo.{FixupTo}
use Rattle.wl_output.specs.declared.fixups.FixupTo.TheVariants.{Value, Deferred}
use Rattle.wl_places.specs.declared.placing.Placing.{Placing}

-- ---- what a relocation names

-- the entry stands at the place
abbrev pub StandsAt : {X : Type 0} → List X → Option X → ℕ → Type 0
StandsAt {X} space entry place = (x : X) × (entry ≡ Some x) × (slice_get space place ≡ Some x)

-- the type that it names
abbrev pub type_named : Input → Relocated → Option FunctionType
type_named input r =
    option_and_then (λ (o : Object). live_type input r.object o r.relocation.index)
    (slice_get input.link.objects r.object)

-- the global whose number the symbol that it names stands for
abbrev pub global_named : Input → Relocated → Option GlobalEntry
global_named input r =
    option_and_then
    (λ (o : Object). option_and_then
    (λ (s : LinkedSymbol). symbol_global input r o s.kind s.index)
    (slice_get o.symbols r.relocation.index))
    (slice_get input.link.objects r.object)

-- the slot of the function that the symbol that it names leads to
abbrev pub slot_named : Input → Relocated → Option ℕ
slot_named input r = option_and_then (slot_of input) (fun input r.object r.relocation.index)

-- ---- addresses

-- what a field takes of the address, counted from that base, or why it can't
abbrev pub address_taken : Input → Placing → Relocated → AddressBase → Result ℤ RelocError
address_taken input g r base =
    address_value base (bases_of g) (address_named input g r) r.relocation.addend

-- an address in the memory leaves the addend to be added
abbrev pub addend_left : AddressBase → WasmDataAddress → ℤ → ℤ
addend_left Memory (Placed place) addend = addend
addend_left base address addend = pos 0

-- ---- fields

-- a place in the block of a thread, or the value, where so much is left to be added
abbrev pub value_or_pointer : Result (Option ℤ) RelocError → ℤ → Result ℤ RelocError
    → Result FixupTo RelocError
value_or_pointer (Err why) left value = Err why
value_or_pointer (Ok (Some offset)) left value = Ok (Deferred offset)
value_or_pointer (Ok None) left (Err why) = Err why
value_or_pointer (Ok None) left (Ok z) = Ok (Value (word_of z) left)

-- what the field of a relocation takes of the address that it names, or why it can't
abbrev pub field_taken : Input → Placing → Relocated → AddressBase → Result FixupTo RelocError
field_taken input g r base =
    value_or_pointer (pointer_named input g r)
    (addend_left base (address_named input g r) r.relocation.addend)
    (address_taken input g r base)

-- what a field takes, and what is left to be added to it
abbrev pub IsTaken : Input → Placing → Relocated → Taking → FixupTo → Type 0
IsTaken input g r (Address base) to = field_taken input g r base ≡ Ok to
IsTaken input g r taking (Deferred offset) = ⊥
IsTaken input g r FunctionIndex (Value value left) =
    (left ≡ pos 0)
    × StandsAt (function_space input) (symbol_function input r.object r.relocation.index) value
IsTaken input g r Slot (Value value left) =
    (left ≡ pos 0) × (slot_named input r ≡ Some value)
IsTaken input g r SlotBehindBase (Value value left) =
    (left ≡ pos 0)
    × (option_map (λ (slot : ℕ). slot - LINKER_TABLE_BASE) (slot_named input r) ≡ Some value)
IsTaken input g r TypeIndex (Value value left) =
    (left ≡ pos 0) × StandsAt (output_types input) (type_named input r) value
IsTaken input g r GlobalIndex (Value value left) =
    (left ≡ pos 0) × StandsAt (global_space input) (global_named input r) value
IsTaken input g r TableNumber (Value value left) = (left ≡ pos 0) × (value ≡ 0)

-- what the field of a relocation takes
abbrev pub IsFieldOf : Input → Placing → Relocated → FixupTo → Type 0
IsFieldOf input g r to = IsTaken input g r (taking_of r.relocation.ty) to

-- the fixup of a kept relocation: the field moves on with what grows before it in its body
pub record IsFixup (input : Input) (g : Placing) (r : Relocated) (f : Fixup) : Type 0 where
  pub object : f.object ≡ r.object
  pub place : f.place ≡ r.place
  pub unit : f.unit ≡ r.site.unit
  pub position : IsMovedIn input g r f.position
  pub ty : f.ty ≡ r.relocation.ty
  pub to : IsFieldOf input g r f.to

-- one for each kept relocation, in order
abbrev pub AreFixups : Input → Placing → List Fixup → Type 0
AreFixups input g fixups = AllZip (IsFixup input g) (relocations input) fixups

-- ---- why a field can't take its address

-- a place counted from that base, with what is added to it
abbrev pub counted_from : AddressBase → AddressBases → ℕ → ℤ → ℤ
counted_from Memory bases place addend = pos place +ℤ addend
counted_from MemoryBase bases place addend = (pos place -ℤ pos bases.memory_base) +ℤ addend
counted_from ThreadData bases place addend = (pos place -ℤ pos bases.tls_base) +ℤ addend

-- the number that would stand in the field
abbrev pub number_taken : AddressBase → AddressBases → WasmDataAddress → ℤ → ℤ
number_taken base bases Missing addend = counted_from base bases 0 addend
number_taken base bases (Placed place) addend = counted_from base bases place addend
number_taken base bases Passive addend = pos 0
number_taken base bases (TlsOffset place) addend = pos place +ℤ addend

-- the address has no place, or one in the block of a thread
abbrev pub no_address : ℕ → WasmDataAddress → LinkError
no_address object Passive = Unsupported object PassiveAddress
no_address object address = Unsupported object TlsAddress

-- what the refusal of an address is reported as
abbrev pub address_refusal : Placing → Relocated → AddressBase → WasmDataAddress → RelocError
    → LinkError
address_refusal g r base address reloc.Range =
    RelocationRange r.object r.relocation.offset
    (number_taken base (bases_of g) address r.relocation.addend)
address_refusal g r base address e = no_address r.object address

-- the reasons that there are: such an address has no value in the field, or one that doesn't fit
abbrev pub IsAddressReason : RelocError → Type 0
IsAddressReason why = (why ≡ reloc.Unsupported) ⊎ (why ≡ reloc.Range)

-- a kept relocation can't take the address of the data that it names; one that names something
-- else has its value
pub record IsFixupFault (input : Input) (g : Placing) (e : LinkError) : Type 0 where
  pub relocated : Relocated
  pub kept : Contains (relocations input) relocated
  pub base : AddressBase
  pub takes : taking_of relocated.relocation.ty ≡ Address base
  pub why : RelocError
  pub fault : field_taken input g relocated base ≡ Err why
  pub reason : IsAddressReason why
  pub told : e ≡ address_refusal g relocated base (address_named input g relocated) why
