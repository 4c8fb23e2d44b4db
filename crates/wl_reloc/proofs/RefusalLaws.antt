-- Where a refusal has its cause, a relocation is refused so.
use Rattle.std.proofs.Common.{◌≡◌, inl, inr, ℕ, Bool, true, false, List, refl, sym, ap, ◌∙◌, Option, Some, None, slice_get, if◌then◌else◌}
use Rattle.std.specs.Prelude.{ℤ, pos, ◌+ℤ◌, ◌-ℤ◌, nat_lt, Result, Ok, Err}
use Rattle.std.proofs.lemmas.Bool.{lt-ltb}
use Rattle.std.proofs.lemmas.Option.{slice_get_past}
use Rattle.wl_custom.specs.RelocationTypes.{taking_of, is_global_index}
use Rattle.wl_custom.specs.Symbols.{Symbol, is_function, is_data, is_global}
use Rattle.wl_custom.specs.Takings.{is_type, is_slot, is_address, is_global as is_of_global, is_taken_of, has_global}
use Rattle.wl_custom.specs.declared.relocations.WasmRelocation.{WasmRelocation}
use Rattle.wl_custom.specs.declared.symbols.WasmSymbolKind.{WasmSymbolKind}
use Rattle.wl_custom.specs.declared.symbols.WasmSymbolKind.TheVariants as kind
use Rattle.wl_custom.specs.declared.takings.AddressBase.{AddressBase}
use Rattle.wl_custom.specs.declared.takings.AddressBase.TheVariants.{Memory, MemoryBase, ThreadData}
use Rattle.wl_custom.specs.declared.takings.Taking.{Taking}
use Rattle.wl_custom.specs.declared.takings.Taking.TheVariants.{FunctionIndex, Slot, SlotBehindBase, TypeIndex, GlobalIndex, TableNumber, Address}
use Rattle.wl_index.specs.declared.data_address.WasmDataAddress.{WasmDataAddress}
use Rattle.wl_index.specs.declared.data_address.WasmDataAddress.TheVariants.{Missing, Placed, Passive, TlsOffset}
use Rattle.wl_index.specs.declared.index.TheConstants.{WASM_DEAD_INDEX}
use Rattle.wl_reloc.specs.Addresses.{is_s32, s32_or_range, as_word, behind_thread_data, address_value}
use Rattle.wl_reloc.specs.Faults.{is_of_function, NamesKind, TakesAddress, LacksSlot, IsPastEnd, past_types, past_symbols, past_functions, past_globals, past_got_mem, past_got_func, past_addresses, IsRemoved, no_type, no_global, no_function, IsOfWrongKind, HasNoSlot, HasNoGot, no_got_mem, no_got_func, HasNoRule, passive, block_in_memory, block_by_base, IsOutOfRange, missing_by_base, placed_by_base, before_thread_data, in_thread_data, in_block, IsRelocFault}
use Rattle.wl_reloc.specs.Resolving.{Resolver, kept_index, redirect, got_global, slot_in, function_index, slot_of, behind_first, global_index, table_number, address_in, address_of, symbol_named, taken_of, taken, resolved}
use Rattle.wl_reloc.specs.declared.error.RelocError.{RelocError}
use Rattle.wl_reloc.specs.declared.error.RelocError.TheVariants.{OutOfRange, Removed, WrongKind, NoSlot, NoGot, Unsupported, Range}
use Rattle.wl_reloc.proofs.FaultLaws.{same_err, why}

-- ---- what a type takes

type_taking : (t : Taking) → is_type t ≡ true → t ≡ TypeIndex
type_taking TypeIndex e = refl
type_taking FunctionIndex e = absurd cc
type_taking Slot e = absurd cc
type_taking SlotBehindBase e = absurd cc
type_taking GlobalIndex e = absurd cc
type_taking TableNumber e = absurd cc
type_taking (Address base) e = absurd cc

global_taking : (t : Taking) → is_of_global t ≡ true → t ≡ GlobalIndex
global_taking GlobalIndex e = refl
global_taking TypeIndex e = absurd cc
global_taking FunctionIndex e = absurd cc
global_taking Slot e = absurd cc
global_taking SlotBehindBase e = absurd cc
global_taking TableNumber e = absurd cc
global_taking (Address base) e = absurd cc

address_taking : (t : Taking) → is_address t ≡ true → (base : AddressBase) × (t ≡ Address base)
address_taking (Address base) e = (base, refl)
address_taking TypeIndex e = absurd cc
address_taking FunctionIndex e = absurd cc
address_taking Slot e = absurd cc
address_taking SlotBehindBase e = absurd cc
address_taking GlobalIndex e = absurd cc
address_taking TableNumber e = absurd cc

function_kind : (k : WasmSymbolKind) → is_function k ≡ true → k ≡ kind.Func
function_kind kind.Func e = refl
function_kind kind.Data e = absurd cc
function_kind kind.Global e = absurd cc
function_kind kind.Section e = absurd cc
function_kind kind.Event e = absurd cc
function_kind kind.Table e = absurd cc

data_kind : (k : WasmSymbolKind) → is_data k ≡ true → k ≡ kind.Data
data_kind kind.Data e = refl
data_kind kind.Func e = absurd cc
data_kind kind.Global e = absurd cc
data_kind kind.Section e = absurd cc
data_kind kind.Event e = absurd cc
data_kind kind.Table e = absurd cc

global_kind : (k : WasmSymbolKind) → is_global k ≡ true → k ≡ kind.Global
global_kind kind.Global e = refl
global_kind kind.Func e = absurd cc
global_kind kind.Data e = absurd cc
global_kind kind.Section e = absurd cc
global_kind kind.Event e = absurd cc
global_kind kind.Table e = absurd cc

-- ---- lists

dead : kept_index (Some WASM_DEAD_INDEX) ≡ Err Removed
dead = refl

no_slot : slot_in (Some WASM_DEAD_INDEX) ≡ Err NoSlot
no_slot = refl

slot_lacks : (slots : List ℕ) (index : ℕ) → LacksSlot slots index
    → slot_in (slice_get slots index) ≡ Err NoSlot
slot_lacks slots index (inl past) = ap slot_in (slice_get_past slots index past)
slot_lacks slots index (inr none) = ap slot_in none ∙ no_slot

no_number : (z : ℤ) → is_s32 z ≡ false → as_word (s32_or_range z) ≡ Err Range
no_number z out = rw out refl

-- ---- relocations

module _ (by : Resolver) (r : WasmRelocation) where
  abbrev Refused : Taking → RelocError → Type 0
  Refused t e = taken by r t ≡ Err e

  at_taking : (t : Taking) (e : RelocError) → taking_of r.ty ≡ t → Refused t e → resolved by r ≡ Err e
  at_taking t e is h = ap (λ (u : Taking). taken by r u) is ∙ h

  -- what is taken of the symbol of that number
  of_symbol : (take : Symbol → Result ℕ RelocError) (s : Symbol) → symbol_named by r ≡ Some s
      → taken_of take (symbol_named by r) ≡ take s
  of_symbol take s named = ap (taken_of take) named

  no_symbol : (t : Taking) → is_type t ≡ false → symbol_named by r ≡ None → Refused t OutOfRange
  no_symbol TypeIndex e none = absurd cc
  no_symbol FunctionIndex e none = ap (taken_of (λ s. function_index by s.kind r.index)) none
  no_symbol Slot e none = ap (taken_of (λ s. slot_of by (function_index by s.kind r.index))) none
  no_symbol SlotBehindBase e none =
      ap (taken_of (λ s. behind_first (slot_of by (function_index by s.kind r.index)))) none
  no_symbol GlobalIndex e none = ap (taken_of (λ s. global_index by s.kind r.index s.index)) none
  no_symbol TableNumber e none = ap (taken_of (λ s. table_number s.kind)) none
  no_symbol (Address base) e none =
      ap (taken_of (λ s. address_of by base r.addend s.kind r.index)) none

  no_global_kind : (k : WasmSymbolKind) (number index : ℕ) → has_global k ≡ false
      → global_index by k number index ≡ Err WrongKind
  no_global_kind kind.Global number index e = absurd cc
  no_global_kind kind.Data number index e = absurd cc
  no_global_kind kind.Func number index e = absurd cc
  no_global_kind kind.Section number index e = refl
  no_global_kind kind.Event number index e = refl
  no_global_kind kind.Table number index e = refl

  no_function_kind : (s : Symbol) → is_function s.kind ≡ false
      → function_index by s.kind r.index ≡ Err WrongKind
  no_function_kind s e = rw e refl

  of_wrong_kind : (t : Taking) (s : Symbol) → is_type t ≡ false → symbol_named by r ≡ Some s
      → is_taken_of t s.kind ≡ false → Refused t WrongKind
  of_wrong_kind TypeIndex s n named e = absurd cc
  of_wrong_kind FunctionIndex s n named e =
      of_symbol (λ t. function_index by t.kind r.index) s named ∙ no_function_kind s e
  of_wrong_kind Slot s n named e =
      of_symbol (λ t. slot_of by (function_index by t.kind r.index)) s named
      ∙ ap (slot_of by) (no_function_kind s e)
  of_wrong_kind SlotBehindBase s n named e =
      of_symbol (λ t. behind_first (slot_of by (function_index by t.kind r.index))) s named
      ∙ ap (λ (x : Result ℕ RelocError). behind_first (slot_of by x)) (no_function_kind s e)
  of_wrong_kind GlobalIndex s n named e =
      of_symbol (λ t. global_index by t.kind r.index t.index) s named
      ∙ no_global_kind s.kind r.index s.index e
  of_wrong_kind TableNumber s n named e =
      of_symbol (λ t. table_number t.kind) s named ∙ rw e refl
  of_wrong_kind (Address base) s n named e =
      of_symbol (λ t. address_of by base r.addend t.kind r.index) s named ∙ rw e refl

  -- ---- functions

  leads : (s : Symbol) (o : Option (Option ℕ)) → is_function s.kind ≡ true
      → slice_get by.map.function_symbol_redirects r.index ≡ o
      → function_index by s.kind r.index ≡ redirect o
  leads s o is at = rw is (ap redirect at)

  function_refused : (t : Taking) (k : NamesKind by r is_function) (e : RelocError)
      → is_of_function t ≡ true → function_index by k.symbol.kind r.index ≡ Err e → Refused t e
  function_refused FunctionIndex k e is h =
      of_symbol (λ t. function_index by t.kind r.index) k.symbol k.named ∙ h
  function_refused Slot k e is h =
      of_symbol (λ t. slot_of by (function_index by t.kind r.index)) k.symbol k.named
      ∙ ap (slot_of by) h
  function_refused SlotBehindBase k e is h =
      of_symbol (λ t. behind_first (slot_of by (function_index by t.kind r.index))) k.symbol k.named
      ∙ ap (λ (x : Result ℕ RelocError). behind_first (slot_of by x)) h
  function_refused TypeIndex k e is h = absurd cc
  function_refused GlobalIndex k e is h = absurd cc
  function_refused TableNumber k e is h = absurd cc
  function_refused (Address base) k e is h = absurd cc

  slot_refused : (t : Taking) (k : NamesKind by r is_function) (index : ℕ) → is_slot t ≡ true
      → function_index by k.symbol.kind r.index ≡ Ok index → LacksSlot by.slots index
      → Refused t NoSlot
  slot_refused Slot k index is h lacks =
      of_symbol (λ t. slot_of by (function_index by t.kind r.index)) k.symbol k.named
      ∙ ap (slot_of by) h ∙ slot_lacks by.slots index lacks
  slot_refused SlotBehindBase k index is h lacks =
      of_symbol (λ t. behind_first (slot_of by (function_index by t.kind r.index))) k.symbol k.named
      ∙ ap (λ (x : Result ℕ RelocError). behind_first (slot_of by x)) h
      ∙ ap behind_first (slot_lacks by.slots index lacks)
  slot_refused FunctionIndex k index is h lacks = absurd cc
  slot_refused TypeIndex k index is h lacks = absurd cc
  slot_refused GlobalIndex k index is h lacks = absurd cc
  slot_refused TableNumber k index is h lacks = absurd cc
  slot_refused (Address base) k index is h lacks = absurd cc

  -- ---- globals

  global_refused : (s : Symbol) (k : WasmSymbolKind) (e : RelocError) → is_global_index r.ty ≡ true
      → symbol_named by r ≡ Some s → s.kind ≡ k → global_index by k r.index s.index ≡ Err e
      → resolved by r ≡ Err e
  global_refused s k e takes named is h =
      at_taking GlobalIndex e (global_taking (taking_of r.ty) takes)
      (of_symbol (λ t. global_index by t.kind r.index t.index) s named
      ∙ ap (λ (x : WasmSymbolKind). global_index by x r.index s.index) is ∙ h)

  -- ---- addresses

  address_refused : (base : AddressBase) (o : Option WasmDataAddress) (e : RelocError)
      → taking_of r.ty ≡ Address base → (k : NamesKind by r is_data)
      → slice_get by.map.data_addresses r.index ≡ o → address_in by base r.addend o ≡ Err e
      → resolved by r ≡ Err e
  address_refused base o e takes k at h =
      let is : is_data k.symbol.kind ≡ true = k.kind_is in
      let data_is : address_of by base r.addend k.symbol.kind r.index
      ≡ address_in by base r.addend (slice_get by.map.data_addresses r.index) = rw is refl in
      at_taking (Address base) e takes
      (of_symbol (λ t. address_of by base r.addend t.kind r.index) k.symbol k.named
      ∙ data_is ∙ ap (address_in by base r.addend) at ∙ h)

  value_refused : (base : AddressBase) (a : WasmDataAddress) (e : RelocError)
      → TakesAddress by r base a → as_word (address_value base by.bases a r.addend) ≡ Err e
      → resolved by r ≡ Err e
  value_refused base a e h refused = address_refused base (Some a) e h.takes h.names h.lies refused

  passive_refused : (base : AddressBase)
      → as_word (address_value base by.bases Passive r.addend) ≡ Err Unsupported
  passive_refused Memory = refl
  passive_refused MemoryBase = refl
  passive_refused ThreadData = refl

  placed_by : (place : ℕ) (before : Bool)
      → is_s32 ((pos place -ℤ pos by.bases.tls_base) +ℤ r.addend) ≡ false
      → as_word (if before then Err Range
      else s32_or_range ((pos place -ℤ pos by.bases.tls_base) +ℤ r.addend)) ≡ Err Range
  placed_by place true out = refl
  placed_by place false out = no_number ((pos place -ℤ pos by.bases.tls_base) +ℤ r.addend) out

  placed_out : (place : ℕ) → is_s32 ((pos place -ℤ pos by.bases.tls_base) +ℤ r.addend) ≡ false
      → as_word (behind_thread_data by.bases place r.addend) ≡ Err Range
  placed_out place out = placed_by place (nat_lt place by.bases.tls_base) out

  -- ---- the causes

  past_end : IsPastEnd by r → resolved by r ≡ Err OutOfRange
  past_end (past_types names past) =
      at_taking TypeIndex OutOfRange (type_taking (taking_of r.ty) names)
      (ap kept_index (slice_get_past by.map.type_indices r.index past))
  past_end (past_symbols names past) =
      no_symbol (taking_of r.ty) names (slice_get_past by.symbols r.index past)
  past_end (past_functions takes k past) =
      function_refused (taking_of r.ty) k OutOfRange takes (leads k.symbol None k.kind_is
      (slice_get_past by.map.function_symbol_redirects r.index past))
  past_end (past_globals takes k past) =
      global_refused k.symbol kind.Global OutOfRange takes k.named (global_kind k.symbol.kind k.kind_is)
      (ap kept_index (slice_get_past by.map.global_indices k.symbol.index past))
  past_end (past_got_mem takes k past) =
      global_refused k.symbol kind.Data OutOfRange takes k.named (data_kind k.symbol.kind k.kind_is)
      (ap got_global (slice_get_past by.map.got_mem_globals r.index past))
  past_end (past_got_func takes k past) =
      global_refused k.symbol kind.Func OutOfRange takes k.named
      (function_kind k.symbol.kind k.kind_is)
      (ap got_global (slice_get_past by.map.got_func_globals r.index past))
  past_end (past_addresses takes k past) =
      let base = address_taking (taking_of r.ty) takes in
      address_refused base.0 None OutOfRange base.1 k
      (slice_get_past by.map.data_addresses r.index past) refl

  removed : IsRemoved by r → resolved by r ≡ Err Removed
  removed (no_type names at) =
      at_taking TypeIndex Removed (type_taking (taking_of r.ty) names) (ap kept_index at ∙ dead)
  removed (no_global takes k at) =
      global_refused k.symbol kind.Global Removed takes k.named (global_kind k.symbol.kind k.kind_is)
      (ap kept_index at ∙ dead)
  removed (no_function takes k at) =
      function_refused (taking_of r.ty) k Removed takes (leads k.symbol (Some None) k.kind_is at)

  wrong_kind : IsOfWrongKind by r → resolved by r ≡ Err WrongKind
  wrong_kind h = of_wrong_kind (taking_of r.ty) h.symbol h.names h.named h.wrong

  without_slot : HasNoSlot by r → resolved by r ≡ Err NoSlot
  without_slot h = slot_refused (taking_of r.ty) h.names h.index h.takes
      (leads h.names.symbol (Some (Some h.index)) h.names.kind_is h.leads) h.lacks

  without_got : HasNoGot by r → resolved by r ≡ Err NoGot
  without_got (no_got_mem takes k at) =
      global_refused k.symbol kind.Data NoGot takes k.named (data_kind k.symbol.kind k.kind_is)
      (ap got_global at)
  without_got (no_got_func takes k at) =
      global_refused k.symbol kind.Func NoGot takes k.named (function_kind k.symbol.kind k.kind_is)
      (ap got_global at)

  without_rule : HasNoRule by r → resolved by r ≡ Err Unsupported
  without_rule (passive base h) = value_refused base Passive Unsupported h (passive_refused base)
  without_rule (block_in_memory offset h) =
      value_refused Memory (TlsOffset offset) Unsupported h refl
  without_rule (block_by_base offset h) =
      value_refused MemoryBase (TlsOffset offset) Unsupported h refl

  out_of_range : IsOutOfRange by r → resolved by r ≡ Err Range
  out_of_range (missing_by_base h out) =
      value_refused MemoryBase Missing Range h
      (no_number ((pos 0 -ℤ pos by.bases.memory_base) +ℤ r.addend) out)
  out_of_range (placed_by_base place h out) =
      value_refused MemoryBase (Placed place) Range h
      (no_number ((pos place -ℤ pos by.bases.memory_base) +ℤ r.addend) out)
  out_of_range (before_thread_data place h before) =
      let refused : as_word (behind_thread_data by.bases place r.addend) ≡ Err Range =
      rw (lt-ltb place by.bases.tls_base before) refl in
      value_refused ThreadData (Placed place) Range h refused
  out_of_range (in_thread_data place h out) =
      value_refused ThreadData (Placed place) Range h (placed_out place out)
  out_of_range (in_block offset h out) =
      value_refused ThreadData (TlsOffset offset) Range h (no_number (pos offset +ℤ r.addend) out)

-- where a refusal has its cause, it is reported
pub refused : (by : Resolver) (r : WasmRelocation) (e : RelocError) → IsRelocFault by r e
    → resolved by r ≡ Err e
refused by r OutOfRange h = past_end by r h
refused by r Removed h = removed by r h
refused by r WrongKind h = wrong_kind by r h
refused by r NoSlot h = without_slot by r h
refused by r NoGot h = without_got by r h
refused by r Unsupported h = without_rule by r h
refused by r Range h = out_of_range by r h

pub one : (by : Resolver) (r : WasmRelocation) (e f : RelocError) → IsRelocFault by r e
    → IsRelocFault by r f → e ≡ f
one by r e f h k = same_err {T = ℕ} e f (sym (refused by r e h) ∙ refused by r f k)

clear_by : (by : Resolver) (r : WasmRelocation) (x : Result ℕ RelocError) → resolved by r ≡ x
    → ((e : RelocError) → IsRelocFault by r e → ⊥) → (value : ℕ) × (resolved by r ≡ Ok value)
clear_by by r (Ok value) is none = (value, is)
clear_by by r (Err e) is none = absurd (none e (why by r e is))

pub clear : (by : Resolver) (r : WasmRelocation) → ((e : RelocError) → IsRelocFault by r e → ⊥)
    → (value : ℕ) × (resolved by r ≡ Ok value)
clear by r none = clear_by by r (resolved by r) refl none
