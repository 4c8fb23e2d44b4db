-- What fixups are made from.
use Rattle.std.specs.Prelude.{◌≡◌, ◌≤◌, length, ℕ, ℤ, pos, ◌+ℤ◌, ◌-ℤ◌, Bool, if◌then◌else◌, List, Result, Ok, Err}
use Rattle.std.specs.List.{AllByRecursion}
use Rattle.wl_linking.specs.Steps.{Clear}
use Rattle.wl_linking.specs.declared.error.LinkError.{LinkError}
use Rattle.wl_custom.specs.RelocationTypes.{taking_of, is_absolute}
use Rattle.wl_custom.specs.declared.relocations.WasmRelocation.{WasmRelocation}
use Rattle.wl_index.specs.declared.data_address.WasmDataAddress.{WasmDataAddress}
use Rattle.wl_index.specs.declared.data_address.WasmDataAddress.TheVariants.{Missing, Placed, Passive, TlsOffset}
use Rattle.wl_index.specs.declared.index.TheConstants.{MAX_ENTRIES}
use Rattle.wl_reloc.specs.Addresses.{word_of}
use Rattle.wl_reloc.specs.declared.addresses.AddressBases.{AddressBases}
use Rattle.wl_reloc.specs.declared.error.RelocError.{RelocError}
use Rattle.wl_custom.specs.declared.takings.AddressBase.{AddressBase}
use Rattle.wl_custom.specs.declared.takings.AddressBase.TheVariants.{Memory, MemoryBase, ThreadData}
use Rattle.wl_custom.specs.declared.takings.Taking.{Taking}
use Rattle.wl_custom.specs.declared.takings.Taking.TheVariants.{FunctionIndex, Slot, SlotBehindBase, TypeIndex, GlobalIndex, TableNumber, Address}
use Rattle.wl_bind.specs.GlobalSpace.{global_space}
use Rattle.wl_symbols.specs.Input.{Input}
use Rattle.wl_bind.specs.OutputTypes.{output_types}
use Rattle.wl_bind.specs.References.{IsSettled}
use Rattle.wl_bind.specs.Scan.{table_functions}
use Rattle.wl_symbols.specs.declared.relocated.Relocated.{Relocated}
use Rattle.wl_places.specs.AddressSteps.{IsBook}
use Rattle.wl_plan.specs.Fixups.{address_taken, field_taken, address_refusal, IsTaken}
use Rattle.wl_places.specs.IndexedMaps.{AreWholeMaps}
use Rattle.wl_plan.specs.Table.{space_slots}
use Rattle.wl_plan.specs.Threads.{address_named}
use Rattle.wl_plan.specs.declared.fixups.FixupSources.{FixupSources}
use Rattle.wl_output.specs.declared.fixups.FixupTo.{FixupTo}
use Rattle.wl_output.specs.declared.fixups.FixupTo.TheVariants.{Value}
use Rattle.wl_places.specs.declared.placing.Placing.{Placing}

-- there is room in the spaces of the output, and for the slots of the functions of the table
pub record HasRoom (input : Input) : Type 0 where
  pub types : length (output_types input) ≤ MAX_ENTRIES
  pub globals : length (global_space input) ≤ MAX_ENTRIES
  pub table : length (table_functions input) ≤ MAX_ENTRIES

-- they are those of one link
pub record AreFixupSources (s : FixupSources) : Type 0 where
  pub book : IsBook s.book.now
  pub settled : IsSettled s.book.now.input.now
  pub room : HasRoom s.book.now.input.now
  pub maps : AreWholeMaps s.book.now.input.now s.book.now.placing.now s.maps.now
  pub slots : s.slots.now ≡ space_slots s.book.now.input.now

-- what is left to be added where a field takes that address, which counts from the start of the
-- memory or not
abbrev pub left_at : WasmDataAddress → Bool → ℤ → ℤ
left_at Missing absolute addend = pos 0
left_at (Placed place) absolute addend = if absolute then addend else pos 0
left_at Passive absolute addend = pos 0
left_at (TlsOffset place) absolute addend = pos 0

-- the same of a relocation
abbrev pub left_of : WasmDataAddress → WasmRelocation → ℤ
left_of address r = left_at address (is_absolute r.ty) r.addend

-- the address from which what is taken is counted; 0 for what is no address
abbrev pub counted_base : Taking → AddressBases → ℕ
counted_base FunctionIndex bases = 0
counted_base Slot bases = 0
counted_base SlotBehindBase bases = 0
counted_base TypeIndex bases = 0
counted_base GlobalIndex bases = 0
counted_base TableNumber bases = 0
counted_base (Address Memory) bases = 0
counted_base (Address MemoryBase) bases = bases.memory_base
counted_base (Address ThreadData) bases = bases.tls_base

-- the number that would stand in the field that takes the address, counted from that base
abbrev pub number_by : ℕ → WasmDataAddress → ℤ → ℤ
number_by base Missing addend = (pos 0 -ℤ pos base) +ℤ addend
number_by base (Placed place) addend = (pos place -ℤ pos base) +ℤ addend
number_by base Passive addend = pos 0
number_by base (TlsOffset place) addend = (pos place -ℤ pos 0) +ℤ addend

-- what the field of a kept relocation takes, or why it can't take the address of what it names
abbrev pub Answers : Input → Placing → Relocated → Taking → Result FixupTo RelocError
    → Type 0
Answers input g r taking (Ok to) = IsTaken input g r taking to
Answers input g r taking (Err why) =
    (base : AddressBase) × (taking ≡ Address base) × (field_taken input g r base ≡ Err why)

-- the value of a kept relocation, wherever its field lies
abbrev pub IsValueOf : Input → Placing → Relocated → Taking → ℕ → Type 0
IsValueOf input g r (Address base) value =
    (z : ℤ) × (address_taken input g r base ≡ Ok z) × (value ≡ word_of z)
IsValueOf input g r taking value = IsTaken input g r taking (Value value (pos 0))

-- that value, or why the address has none
abbrev pub AnswersValue : Input → Placing → Relocated → Taking → Result ℕ RelocError → Type 0
AnswersValue input g r taking (Ok value) = IsValueOf input g r taking value
AnswersValue input g r taking (Err why) =
    (base : AddressBase) × (taking ≡ Address base) × (address_taken input g r base ≡ Err why)

-- the same by what fixups are made from
abbrev pub AnswersFrom : FixupSources → Relocated → Result ℕ RelocError → Type 0
AnswersFrom s r answer =
    AnswersValue s.book.now.input.now s.book.now.placing.now r (taking_of r.relocation.ty) answer

-- the kept relocation can't take its address
pub record IsRefusedAt (s : FixupSources) (r : Relocated) (e : LinkError) : Type 0 where
  pub base : AddressBase
  pub takes : taking_of r.relocation.ty ≡ Address base
  pub why : RelocError
  pub fault : field_taken s.book.now.input.now s.book.now.placing.now r base ≡ Err why
  pub told : e
      ≡ address_refusal s.book.now.placing.now r base
      (address_named s.book.now.input.now s.book.now.placing.now r) why

-- each of these relocations can take its address, if it takes one
abbrev pub NoneRefused : FixupSources → List Relocated → Type 0
NoneRefused s rs = AllByRecursion (λ (r : Relocated). Clear (IsRefusedAt s r)) rs
