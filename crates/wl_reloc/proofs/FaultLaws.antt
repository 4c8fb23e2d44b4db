-- Where a relocation has no value, the refusal that is reported has its cause.
use Rattle.std.proofs.Common.{◌≡◌, ◌≢◌, ◌⊎◌, inl, inr, ℕ, ◌≤◌, ◌<◌, Bool, true, false, eqb, List, length, refl, sym, ap, subst, ◌∙◌, Option, Some, None, slice_get, if◌then◌else◌, get_or}
use Rattle.std.specs.Prelude.{ℤ, pos, ◌+ℤ◌, ◌-ℤ◌, Result, Ok, Err}
use Rattle.std.proofs.lemmas.Bool.{cases_lt, lt-ltb, le-ltb}
use Rattle.std.proofs.lemmas.Bool.Decides.{eqb_tells}
use Rattle.std.proofs.lemmas.Option.{slice_get_cases}
use Rattle.wl_custom.specs.RelocationTypes.{taking_of, names_a_type, takes_kind, is_global_index, is_table_index}
use Rattle.wl_custom.specs.Symbols.{Symbol, is_function, is_data, is_global, is_table}
use Rattle.wl_custom.specs.Takings.{is_type, is_slot, is_address, is_global as is_of_global, is_taken_of}
use Rattle.wl_custom.specs.declared.relocations.WasmRelocation.{WasmRelocation}
use Rattle.wl_custom.specs.declared.symbols.WasmSymbolKind.{WasmSymbolKind}
use Rattle.wl_custom.specs.declared.symbols.WasmSymbolKind.TheVariants as kind
use Rattle.wl_custom.specs.declared.takings.AddressBase.{AddressBase}
use Rattle.wl_custom.specs.declared.takings.AddressBase.TheVariants.{Memory, MemoryBase, ThreadData}
use Rattle.wl_custom.specs.declared.takings.Taking.{Taking}
use Rattle.wl_custom.specs.declared.takings.Taking.TheVariants.{FunctionIndex, Slot, SlotBehindBase, TypeIndex, GlobalIndex, TableNumber, Address}
use Rattle.wl_index.specs.declared.data_address.WasmDataAddress.{WasmDataAddress}
use Rattle.wl_index.specs.declared.data_address.WasmDataAddress.TheVariants.{Missing, Placed, Passive, TlsOffset}
use Rattle.wl_index.specs.declared.index.TheConstants.{WASM_DEAD_INDEX}
use Rattle.wl_reloc.specs.Addresses.{is_s32, s32_or_range, as_word, behind_thread_data, address_value}
use Rattle.wl_reloc.specs.Faults.{is_of_function, takes_function, NamesKind, TakesAddress, LacksSlot, past_types, past_symbols, past_functions, past_globals, past_got_mem, past_got_func, past_addresses, no_type, no_global, no_function, no_got_mem, no_got_func, passive, block_in_memory, block_by_base, missing_by_base, placed_by_base, before_thread_data, in_thread_data, in_block, IsRelocFault}
use Rattle.wl_reloc.specs.Resolving.{Resolver, kept_index, redirect, got_global, slot_in, function_index, slot_of, behind_first, global_index, table_number, address_in, address_of, symbol_named, taken_of, taken, resolved}
use Rattle.wl_reloc.specs.declared.error.RelocError.{RelocError}
use Rattle.wl_reloc.specs.declared.error.RelocError.TheVariants.{OutOfRange, Removed, WrongKind, NoSlot, NoGot, Unsupported, Range}

-- ---- refusals

pub same_err : {T : Type 0} (a b : RelocError) → ◌≡◌ {A = Result T RelocError} (Err a) (Err b)
    → a ≡ b
same_err a b h = cc

pub no_err : {T : Type 0} (value : T) (e : RelocError)
    → ◌≡◌ {A = Result T RelocError} (Ok value) (Err e) → ⊥
no_err value e h = cc

-- the list ends before what isn't in it
past_by : {X : Type 0} (xs : List X) (i : ℕ) → slice_get xs i ≡ None
    → ((x : X) × (i < length xs) × (slice_get xs i ≡ Some x) × (get_or xs i x ≡ x))
    ⊎ ((length xs ≤ i) × (slice_get xs i ≡ None)) → length xs ≤ i
past_by xs i h (inl there) = let e : Some there.0 ≡ None = sym there.2 ∙ h in absurd cc
past_by xs i h (inr is) = is.0

pub past : {X : Type 0} (xs : List X) (i : ℕ) → slice_get xs i ≡ None → length xs ≤ i
past xs i h = past_by xs i h (slice_get_cases xs i).1

-- what is reported has that cause
module _ (Cause : RelocError → Type 0) where
  pub told : {T : Type 0} (a b : RelocError) → ◌≡◌ {A = Result T RelocError} (Err a) (Err b)
      → Cause a → Cause b
  told {T} a b h c = subst Cause (same_err {T = T} a b h) c

  kept_some : (i : ℕ) (e : RelocError)
      → ((eqb i WASM_DEAD_INDEX ≡ true) × (i ≡ WASM_DEAD_INDEX))
      ⊎ ((eqb i WASM_DEAD_INDEX ≡ false) × (i ≢ WASM_DEAD_INDEX))
      → kept_index (Some i) ≡ Err e → (i ≡ WASM_DEAD_INDEX → Cause Removed) → Cause e
  kept_some i e (inl dead) h removed =
      told {T = ℕ} Removed e (rw dead.0 at h) (removed dead.1)
  kept_some i e (inr there) h removed =
      absurd (no_err {T = ℕ} i e (rw there.0 at h))

  of_kept : (o : Option ℕ) (e : RelocError) → kept_index o ≡ Err e
      → (o ≡ None → Cause OutOfRange) → (o ≡ Some WASM_DEAD_INDEX → Cause Removed) → Cause e
  of_kept None e h none removed = told {T = ℕ} OutOfRange e h (none refl)
  of_kept (Some i) e h none removed = kept_some i e (eqb_tells i WASM_DEAD_INDEX) h
      (λ is. removed (ap (λ (n : ℕ). Some n) is))

  of_redirect : (o : Option (Option ℕ)) (e : RelocError) → redirect o ≡ Err e
      → (o ≡ None → Cause OutOfRange) → (o ≡ Some None → Cause Removed) → Cause e
  of_redirect None e h none removed = told {T = ℕ} OutOfRange e h (none refl)
  of_redirect (Some None) e h none removed = told {T = ℕ} Removed e h (removed refl)
  of_redirect (Some (Some i)) e h none removed = absurd (no_err {T = ℕ} i e h)

  of_got : (o : Option (Option ℕ)) (e : RelocError) → got_global o ≡ Err e
      → (o ≡ None → Cause OutOfRange) → (o ≡ Some None → Cause NoGot) → Cause e
  of_got None e h none no_got = told {T = ℕ} OutOfRange e h (none refl)
  of_got (Some None) e h none no_got = told {T = ℕ} NoGot e h (no_got refl)
  of_got (Some (Some i)) e h none no_got = absurd (no_err {T = ℕ} i e h)

  slot_some : (i : ℕ) (e : RelocError)
      → ((eqb i WASM_DEAD_INDEX ≡ true) × (i ≡ WASM_DEAD_INDEX))
      ⊎ ((eqb i WASM_DEAD_INDEX ≡ false) × (i ≢ WASM_DEAD_INDEX))
      → slot_in (Some i) ≡ Err e → (i ≡ WASM_DEAD_INDEX → Cause NoSlot) → Cause e
  slot_some i e (inl dead) h lacks = told {T = ℕ} NoSlot e (rw dead.0 at h) (lacks dead.1)
  slot_some i e (inr there) h lacks = absurd (no_err {T = ℕ} i e (rw there.0 at h))

  of_slot : (slots : List ℕ) (index : ℕ) (o : Option ℕ) (e : RelocError)
      → slice_get slots index ≡ o → slot_in o ≡ Err e
      → (LacksSlot slots index → Cause NoSlot) → Cause e
  of_slot slots index None e at h lacks =
      told {T = ℕ} NoSlot e h (lacks (inl (past slots index at)))
  of_slot slots index (Some i) e at h lacks = slot_some i e (eqb_tells i WASM_DEAD_INDEX) h
      (λ is. lacks (inr (at ∙ ap (λ (n : ℕ). Some n) is)))

  of_slots : (by : Resolver) (o : Option (Option ℕ)) (e : RelocError)
      → slot_of by (redirect o) ≡ Err e
      → (o ≡ None → Cause OutOfRange) → (o ≡ Some None → Cause Removed)
      → ((index : ℕ) → o ≡ Some (Some index) → LacksSlot by.slots index → Cause NoSlot) → Cause e
  of_slots by None e h none removed lacks = told {T = ℕ} OutOfRange e h (none refl)
  of_slots by (Some None) e h none removed lacks = told {T = ℕ} Removed e h (removed refl)
  of_slots by (Some (Some index)) e h none removed lacks =
      of_slot by.slots index (slice_get by.slots index) e refl h (lacks index refl)

  of_s32 : (z : ℤ) (b : Bool) (e : RelocError) → is_s32 z ≡ b
      → as_word (if b then Ok z else Err Range) ≡ Err e → (is_s32 z ≡ false → Cause Range) → Cause e
  of_s32 z true e is h out = absurd cc
  of_s32 z false e is h out = told {T = ℕ} Range e h (out is)

  of_number : (z : ℤ) (e : RelocError) → as_word (s32_or_range z) ≡ Err e
      → (is_s32 z ≡ false → Cause Range) → Cause e
  of_number z e h out = of_s32 z (is_s32 z) e refl h out

-- a slot after the first one is refused where the slot is
before_first : (x : Result ℕ RelocError) (e : RelocError) → behind_first x ≡ Err e → x ≡ Err e
before_first (Ok slot) e h = absurd cc
before_first (Err d) e h = h

-- ---- relocations

module _ (by : Resolver) (r : WasmRelocation) where
  abbrev caused : RelocError → Type 0
  caused e = IsRelocFault by r e

  -- of types
  type_caused : taking_of r.ty ≡ TypeIndex → (e : RelocError)
      → kept_index (slice_get by.map.type_indices r.index) ≡ Err e → caused e
  type_caused is e h =
      let names : names_a_type r.ty ≡ true = ap is_type is in
      of_kept caused (slice_get by.map.type_indices r.index) e h
      (λ none. past_types names (past by.map.type_indices r.index none))
      (λ dead. no_type names dead)

  -- of a symbol
  abbrev kind_named : (is_kind : WasmSymbolKind → Bool) (s : Symbol) → symbol_named by r ≡ Some s
      → is_kind s.kind ≡ true → NamesKind by r is_kind
  kind_named is_kind s named is = record { symbol = s; named = named; kind_is = is }

  -- in place of a symbol of another kind
  wrong_kind : (s : Symbol) → symbol_named by r ≡ Some s → names_a_type r.ty ≡ false
      → takes_kind r.ty s.kind ≡ false → caused WrongKind
  wrong_kind s named names wrong =
      record { symbol = s; names = names; named = named; wrong = wrong }

  -- the function that a symbol leads to
  function_caused : (s : Symbol) (is : Bool) → symbol_named by r ≡ Some s
      → is_function s.kind ≡ is → takes_function r.ty ≡ true → names_a_type r.ty ≡ false
      → takes_kind r.ty s.kind ≡ is_function s.kind → (e : RelocError)
      → (if is then redirect (slice_get by.map.function_symbol_redirects r.index) else Err WrongKind)
      ≡ Err e → caused e
  function_caused s true named is takes names kinds e h =
      let k : NamesKind by r is_function = kind_named is_function s named is in
      of_redirect caused (slice_get by.map.function_symbol_redirects r.index) e h
      (λ none. past_functions takes k (past by.map.function_symbol_redirects r.index none))
      (λ none. no_function takes k none)
  function_caused s false named is takes names kinds e h =
      told caused {T = ℕ} WrongKind e h (wrong_kind s named names (kinds ∙ is))

  -- its slot
  slot_caused : (s : Symbol) (is : Bool) → symbol_named by r ≡ Some s
      → is_function s.kind ≡ is → is_table_index r.ty ≡ true → takes_function r.ty ≡ true
      → names_a_type r.ty ≡ false → takes_kind r.ty s.kind ≡ is_function s.kind → (e : RelocError)
      → slot_of by
      (if is then redirect (slice_get by.map.function_symbol_redirects r.index) else Err WrongKind)
      ≡ Err e → caused e
  slot_caused s true named is slot takes names kinds e h =
      let k : NamesKind by r is_function = kind_named is_function s named is in
      of_slots caused by (slice_get by.map.function_symbol_redirects r.index) e h
      (λ none. past_functions takes k (past by.map.function_symbol_redirects r.index none))
      (λ none. no_function takes k none)
      (λ index leads lacks. record {
        index = index;
        takes = slot;
        names = k;
        leads = leads;
        lacks = lacks;
      })
  slot_caused s false named is slot takes names kinds e h =
      told caused {T = ℕ} WrongKind e h (wrong_kind s named names (kinds ∙ is))

  -- the global of a symbol
  not_global : (s : Symbol) (k : WasmSymbolKind) → symbol_named by r ≡ Some s → s.kind ≡ k
      → taking_of r.ty ≡ GlobalIndex → is_taken_of GlobalIndex k ≡ false → (e : RelocError)
      → ◌≡◌ {A = Result ℕ RelocError} (Err WrongKind) (Err e) → caused e
  not_global s k named is takes wrong e h =
      told caused {T = ℕ} WrongKind e h (wrong_kind s named (ap is_type takes)
      (ap (λ (t : Taking). is_taken_of t s.kind) takes ∙ ap (is_taken_of GlobalIndex) is ∙ wrong))

  global_caused : (s : Symbol) (k : WasmSymbolKind) → symbol_named by r ≡ Some s → s.kind ≡ k
      → taking_of r.ty ≡ GlobalIndex → (e : RelocError) → global_index by k r.index s.index ≡ Err e
      → caused e
  global_caused s kind.Global named is takes e h =
      let n : NamesKind by r is_global = kind_named is_global s named (ap is_global is) in
      let g : is_global_index r.ty ≡ true = ap is_of_global takes in
      of_kept caused (slice_get by.map.global_indices s.index) e h
      (λ none. past_globals g n (past by.map.global_indices s.index none))
      (λ dead. no_global g n dead)
  global_caused s kind.Data named is takes e h =
      let n : NamesKind by r is_data = kind_named is_data s named (ap is_data is) in
      let g : is_global_index r.ty ≡ true = ap is_of_global takes in
      of_got caused (slice_get by.map.got_mem_globals r.index) e h
      (λ none. past_got_mem g n (past by.map.got_mem_globals r.index none))
      (λ none. no_got_mem g n none)
  global_caused s kind.Func named is takes e h =
      let n : NamesKind by r is_function = kind_named is_function s named (ap is_function is) in
      let g : is_global_index r.ty ≡ true = ap is_of_global takes in
      of_got caused (slice_get by.map.got_func_globals r.index) e h
      (λ none. past_got_func g n (past by.map.got_func_globals r.index none))
      (λ none. no_got_func g n none)
  global_caused s kind.Section named is takes e h = not_global s kind.Section named is takes refl e h
  global_caused s kind.Event named is takes e h = not_global s kind.Event named is takes refl e h
  global_caused s kind.Table named is takes e h = not_global s kind.Table named is takes refl e h

  -- the table
  table_caused : (s : Symbol) (is : Bool) → symbol_named by r ≡ Some s → is_table s.kind ≡ is
      → taking_of r.ty ≡ TableNumber → (e : RelocError)
      → ◌≡◌ {A = Result ℕ RelocError} (if is then Ok 0 else Err WrongKind) (Err e) → caused e
  table_caused s true named is takes e h = absurd (no_err {T = ℕ} 0 e h)
  table_caused s false named is takes e h =
      told caused {T = ℕ} WrongKind e h (wrong_kind s named (ap is_type takes)
      (ap (λ (t : Taking). is_taken_of t s.kind) takes ∙ is))

  -- an address that is placed, counted from where the data of the thread begins
  thread_caused : (place : ℕ) → TakesAddress by r ThreadData (Placed place)
      → ((place < by.bases.tls_base) ⊎ (by.bases.tls_base ≤ place)) → (e : RelocError)
      → as_word (behind_thread_data by.bases place r.addend) ≡ Err e → caused e
  thread_caused place takes (inl before) e h =
      told caused {T = ℕ} Range e (rw (lt-ltb place by.bases.tls_base before) at h)
      (before_thread_data place takes before)
  thread_caused place takes (inr behind) e h =
      of_number caused ((pos place -ℤ pos by.bases.tls_base) +ℤ r.addend) e
      (rw (le-ltb place by.bases.tls_base behind) at h) (λ out. in_thread_data place takes out)

  address_caused : (base : AddressBase) (a : WasmDataAddress) → TakesAddress by r base a
      → (e : RelocError) → as_word (address_value base by.bases a r.addend) ≡ Err e → caused e
  address_caused Memory Missing takes e h = absurd cc
  address_caused Memory (Placed place) takes e h = absurd cc
  address_caused Memory (TlsOffset offset) takes e h =
      told caused {T = ℕ} Unsupported e h (block_in_memory offset takes)
  address_caused MemoryBase Missing takes e h =
      of_number caused ((pos 0 -ℤ pos by.bases.memory_base) +ℤ r.addend) e h
      (λ out. missing_by_base takes out)
  address_caused MemoryBase (Placed place) takes e h =
      of_number caused ((pos place -ℤ pos by.bases.memory_base) +ℤ r.addend) e h
      (λ out. placed_by_base place takes out)
  address_caused MemoryBase (TlsOffset offset) takes e h =
      told caused {T = ℕ} Unsupported e h (block_by_base offset takes)
  address_caused ThreadData Missing takes e h = absurd cc
  address_caused ThreadData (Placed place) takes e h =
      thread_caused place takes (cases_lt place by.bases.tls_base) e h
  address_caused ThreadData (TlsOffset offset) takes e h =
      of_number caused (pos offset +ℤ r.addend) e h (λ out. in_block offset takes out)
  address_caused Memory Passive takes e h =
      told caused {T = ℕ} Unsupported e h (passive Memory takes)
  address_caused MemoryBase Passive takes e h =
      told caused {T = ℕ} Unsupported e h (passive MemoryBase takes)
  address_caused ThreadData Passive takes e h =
      told caused {T = ℕ} Unsupported e h (passive ThreadData takes)

  listed_caused : (base : AddressBase) → taking_of r.ty ≡ Address base → NamesKind by r is_data
      → (o : Option WasmDataAddress) → slice_get by.map.data_addresses r.index ≡ o → (e : RelocError)
      → address_in by base r.addend o ≡ Err e → caused e
  listed_caused base is names None at e h =
      told caused {T = ℕ} OutOfRange e h
      (past_addresses (ap is_address is) names (past by.map.data_addresses r.index at))
  listed_caused base is names (Some a) at e h =
      address_caused base a (record { takes = is; names = names; lies = at }) e h

  data_caused : (base : AddressBase) (s : Symbol) (d : Bool) → taking_of r.ty ≡ Address base
      → symbol_named by r ≡ Some s → is_data s.kind ≡ d → (e : RelocError)
      → (if d then address_in by base r.addend (slice_get by.map.data_addresses r.index)
      else Err WrongKind) ≡ Err e → caused e
  data_caused base s true is named data_is e h =
      listed_caused base is (kind_named is_data s named data_is)
      (slice_get by.map.data_addresses r.index) refl e h
  data_caused base s false is named data_is e h =
      told caused {T = ℕ} WrongKind e h (wrong_kind s named (ap is_type is)
      (ap (λ (t : Taking). is_taken_of t s.kind) is ∙ data_is))

  -- what is taken of a symbol
  symbol_caused : (take : Symbol → Result ℕ RelocError) → names_a_type r.ty ≡ false
      → (o : Option Symbol) → symbol_named by r ≡ o → (e : RelocError) → taken_of take o ≡ Err e
      → ((s : Symbol) → symbol_named by r ≡ Some s → take s ≡ Err e → caused e) → caused e
  symbol_caused take names None at e h of =
      told caused {T = ℕ} OutOfRange e h (past_symbols names (past by.symbols r.index at))
  symbol_caused take names (Some s) at e h of = of s at h

  taking_caused : (t : Taking) → taking_of r.ty ≡ t → (e : RelocError) → taken by r t ≡ Err e
      → caused e
  taking_caused FunctionIndex is e h =
      symbol_caused (λ s. function_index by s.kind r.index) (ap is_type is) (symbol_named by r) refl
      e h (λ s at k. function_caused s (is_function s.kind) at refl (ap is_of_function is)
      (ap is_type is) (ap (λ (t : Taking). is_taken_of t s.kind) is) e k)
  taking_caused Slot is e h =
      symbol_caused (λ s. slot_of by (function_index by s.kind r.index)) (ap is_type is)
      (symbol_named by r) refl e h (λ s at k. slot_caused s (is_function s.kind) at refl
      (ap is_slot is) (ap is_of_function is) (ap is_type is)
      (ap (λ (t : Taking). is_taken_of t s.kind) is) e k)
  taking_caused SlotBehindBase is e h =
      symbol_caused (λ s. behind_first (slot_of by (function_index by s.kind r.index)))
      (ap is_type is) (symbol_named by r) refl e h
      (λ s at k. slot_caused s (is_function s.kind) at refl (ap is_slot is) (ap is_of_function is)
      (ap is_type is) (ap (λ (t : Taking). is_taken_of t s.kind) is) e
      (before_first (slot_of by (function_index by s.kind r.index)) e k))
  taking_caused TypeIndex is e h = type_caused is e h
  taking_caused GlobalIndex is e h =
      symbol_caused (λ s. global_index by s.kind r.index s.index) (ap is_type is)
      (symbol_named by r) refl e h (λ s at k. global_caused s s.kind at refl is e k)
  taking_caused TableNumber is e h =
      symbol_caused (λ s. table_number s.kind) (ap is_type is) (symbol_named by r) refl e h
      (λ s at k. table_caused s (is_table s.kind) at refl is e k)
  taking_caused (Address base) is e h =
      symbol_caused (λ s. address_of by base r.addend s.kind r.index) (ap is_type is)
      (symbol_named by r) refl e h
      (λ s at k. data_caused base s (is_data s.kind) is at refl e k)

-- where it is refused, that refusal has its cause
pub why : (by : Resolver) (r : WasmRelocation) (e : RelocError) → resolved by r ≡ Err e
    → IsRelocFault by r e
why by r e h = taking_caused by r (taking_of r.ty) refl e h
