-- What the field of a kept relocation takes, or why it takes nothing.
use Rattle.std.proofs.Common.{◌≡◌, ◌⊎◌, ◌∙◌, ◌||◌, ◌<◌, ◌≤◌, inl, inr, ℕ, zero, suc, ◌-◌, Bool, true, false, eqb, List, [], ◌∷◌, length, map, refl, sym, ap, subst, arith, Option, Some, None, slice_get, Contains, if◌then◌else◌}
use Rattle.std.specs.Prelude.{nat_lt, ℤ, pos, ◌+ℤ◌, ◌-ℤ◌, Result, Ok, Err}
use Rattle.std.specs.List.{range_with_len}
use Rattle.std.specs.Option.{option_map, option_map_or, option_and_then, unwrap_or}
use Rattle.std.proofs.lemmas.Bool.{cases_lt, ne_eqb}
use Rattle.std.proofs.lemmas.Int.{ints}
use Rattle.std.proofs.lemmas.List.FromFn.{length-map-range_with_len}
use Rattle.std.proofs.lemmas.Option.{slice_get-map, slice_get_past, slice_get_within, same_Some}
use Rattle.wl_linking.specs.Object.{Object}
use Rattle.wl_custom.specs.Takings.{is_type, is_slot, is_global, is_taken_of}
use Rattle.wl_custom.specs.RelocationTypes.{taking_of, field_form, has_addend, is_absolute, names_a_type, takes_kind, is_table_index, is_global_index}
use Rattle.wl_linking.specs.Steps.{Clear}
use Rattle.wl_custom.specs.Symbols.{Symbol as LinkedSymbol, is_data, is_function, is_table}
use Rattle.wl_custom.specs.declared.relocation_type.RelocationType.{RelocationType}
use Rattle.wl_custom.specs.declared.relocations.WasmRelocation.{WasmRelocation}
use Rattle.wl_custom.specs.declared.symbols.WasmSymbolKind.{WasmSymbolKind}
use Rattle.wl_custom.specs.declared.symbols.WasmSymbolKind.TheVariants as kind
use Rattle.wl_custom.specs.declared.relocation_type.FieldForm.{FieldForm}
use Rattle.wl_custom.specs.declared.relocation_type.FieldForm.TheVariants.{PaddedUnsigned, PaddedSigned, Word}
use Rattle.wl_index.specs.declared.data_address.WasmDataAddress.{WasmDataAddress}
use Rattle.wl_index.specs.declared.data_address.WasmDataAddress.TheVariants as address
use Rattle.wl_index.specs.declared.index.TheConstants.{WASM_DEAD_INDEX, MAX_ENTRIES}
use Rattle.wl_reloc.specs.Addresses.{address_value, as_some, as_word, deferred_at, is_s32, s32_or_range, stored_by_thread}
use Rattle.wl_reloc.specs.Resolving.{Resolver, kept_index, redirect, got_global, slot_in, function_index, slot_of as resolved_slot, behind_first, global_index, table_number, address_in, address_of, taken_of, taken, resolved}
use Rattle.wl_reloc.specs.declared.addresses.AddressBases.{AddressBases}
use Rattle.wl_reloc.specs.declared.error.RelocError.{RelocError}
use Rattle.wl_reloc.specs.declared.error.RelocError.TheVariants as reloc
use Rattle.wl_index.specs.declared.index_map.WasmObjectIndexMap.{WasmObjectIndexMap}
use Rattle.wl_custom.specs.declared.takings.AddressBase.{AddressBase}
use Rattle.wl_custom.specs.declared.takings.AddressBase.TheVariants.{Memory, MemoryBase, ThreadData}
use Rattle.wl_custom.specs.declared.takings.Taking.{Taking}
use Rattle.wl_custom.specs.declared.takings.Taking.TheVariants.{FunctionIndex, Slot, SlotBehindBase, TypeIndex, GlobalIndex, TableNumber, Address}
use Rattle.wl_symbols.specs.Entries.{symbol_in}
use Rattle.wl_bind.specs.FunctionSpace.{FunctionEntry, FunctionOf, function_space}
use Rattle.wl_bind.specs.FunctionSymbols.{fun}
use Rattle.wl_bind.specs.GlobalSpace.{GlobalEntry, global_space, local_globals}
use Rattle.wl_bind.specs.IndexMaps.{is_kept_target, entry_of, symbol_function, symbol_functions, got_mem_global, got_mem_globals, got_func_global, got_func_globals}
use Rattle.wl_symbols.specs.Input.{Input}
use Rattle.wl_bind.specs.OutputTypes.{output_types, local_types}
use Rattle.wl_bind.specs.Parts.{IsIndexOf, AreIndicesOf, IsPlaceOf, ArePlacesOf}
use Rattle.wl_bind.specs.References.{there, live_type, symbol_global, HasSlot, IsInOutput, IsSettled, NamesType, NamesSymbol, NamesFunction, NamesGlobal}
use Rattle.wl_symbols.specs.Relocations.{relocations}
use Rattle.wl_bind.specs.Scan.{symbol_of, names_function}
use Rattle.wl_bind.specs.declared.binding.FunctionTarget.{FunctionTarget}
use Rattle.wl_bind.specs.declared.binding.FunctionTarget.TheVariants as function
use Rattle.wl_symbols.specs.declared.relocated.Relocated.{Relocated}
use Rattle.wl_places.specs.Addresses.{symbol_address}
use Rattle.wl_plan.specs.steps.Fixups.{AreFixupSources, AnswersValue, AnswersFrom, HasRoom, counted_base, number_by, left_of, IsRefusedAt}
use Rattle.wl_plan.specs.Fixups.{type_named, global_named, slot_named, address_taken, addend_left, value_or_pointer, field_taken, number_taken, IsTaken, IsAddressReason}
use Rattle.wl_places.specs.IndexedMaps.{IsWholeMap, AreWholeMaps}
use Rattle.wl_plan.specs.Table.{slot_of, slot_of_entry, space_slots}
use Rattle.wl_plan.specs.Threads.{address_named, bases_of, template_start, pointer_named}
use Rattle.wl_output.specs.declared.fixups.FixupTo.{FixupTo}
use Rattle.wl_plan.specs.declared.fixups.FixupSources.{FixupSources}
use Rattle.wl_places.specs.declared.placing.Placing.{Placing}
use Rattle.wl_lists.proofs.Rows.{rows_length, row_found}
use Rattle.wl_plan.proofs.ListLaws.{of_range}
use Rattle.wl_plan.proofs.SlotLaws.{TableLaws, slot_is}

-- ---- lists

-- the index of an entry that is there
index_at : {X : Type 0} (space : List X) (entries : List (Option X)) (indices : List ℕ) (k : ℕ)
    (x : X) → AreIndicesOf space entries indices → there entries k ≡ Some x
    → (i : ℕ) × (slice_get indices k ≡ Some i) × (slice_get space i ≡ Some x)
index_at space [] [] k x h e = absurd cc
index_at space [] (i ∷ indices) k x h e = absurd h
index_at space (o ∷ entries) [] k x h e = absurd h
index_at {X} space (o ∷ entries) (i ∷ indices) zero x h e =
    (i, refl, subst (λ (p : Option X). IsIndexOf space p i) e h.0)
index_at space (o ∷ entries) (i ∷ indices) (suc k) x h e =
    index_at space entries indices k x h.1 e

place_here : {X : Type 0} (space : List X) (x : X) (p : Option ℕ) → IsPlaceOf space (Some x) p
    → (n : ℕ) × (p ≡ Some n) × (slice_get space n ≡ Some x)
place_here space x None h = absurd h
place_here space x (Some n) h = (n, refl, h)

-- the place of an entry that is there
place_at : {X : Type 0} (space : List X) (entries : List (Option X)) (places : List (Option ℕ))
    (k : ℕ) (x : X) → ArePlacesOf space entries places → slice_get entries k ≡ Some (Some x)
    → (n : ℕ) × (slice_get places k ≡ Some (Some n)) × (slice_get space n ≡ Some x)
place_at space [] [] k x h e = absurd cc
place_at space [] (i ∷ places) k x h e = absurd h
place_at space (o ∷ entries) [] k x h e = absurd h
place_at {X} space (o ∷ entries) (p ∷ places) zero x h e =
    let here = place_here space x p
    (subst (λ (q : Option X). IsPlaceOf space q p) (same_Some o (Some x) e) h.0) in
    (here.0, ap (λ (q : Option ℕ). Some q) here.1, here.2)
place_at space (o ∷ entries) (p ∷ places) (suc k) x h e = place_at space entries places k x h.1 e

not_dead : (i : ℕ) → i < WASM_DEAD_INDEX → eqb i WASM_DEAD_INDEX ≡ false
not_dead i lt = ne_eqb i WASM_DEAD_INDEX (λ e. absurd (omega (arith, lt, e)))

index_kept : {X : Type 0} (space : List X) (i : ℕ) (x : X) → length space ≤ MAX_ENTRIES
    → slice_get space i ≡ Some x → kept_index (Some i) ≡ Ok i
index_kept space i x few at =
    rw (not_dead i (omega (arith, few, slice_get_within space i x at))) refl

-- ---- what is known of a kept relocation

-- facts about kept relocations
pub record Laws : Type 0 where
  pub types : (input : Input) (r : Relocated) → IsSettled input
      → Contains (relocations input) r → names_a_type r.relocation.ty ≡ true → NamesType input r
  pub symbols : (input : Input) (r : Relocated) → IsSettled input
      → Contains (relocations input) r → names_a_type r.relocation.ty ≡ false → NamesSymbol input r
  pub functions : (input : Input) (r : Relocated) → IsSettled input
      → Contains (relocations input) r → names_a_type r.relocation.ty ≡ false
      → names_function input r ≡ true → NamesFunction input r
  pub globals : (input : Input) (r : Relocated) → IsSettled input
      → Contains (relocations input) r → is_global_index r.relocation.ty ≡ true
      → NamesGlobal input r
  pub slots : (input : Input) (r : Relocated) (target : FunctionTarget) → IsSettled input
      → Contains (relocations input) r
      → (is_table_index r.relocation.ty || is_global_index r.relocation.ty) ≡ true
      → names_function input r ≡ true → fun input r.object r.relocation.index ≡ Some target
      → HasSlot input target

-- the relocation, its object, and the map of that
pub record IsKnown (input : Input) (g : Placing) (r : Relocated) (o : Object)
    (m : WasmObjectIndexMap) : Type 0 where
  pub laws : Laws
  pub table : TableLaws
  pub settled : IsSettled input
  pub room : HasRoom input
  pub kept : Contains (relocations input) r
  pub here : slice_get input.link.objects r.object ≡ Some o
  pub map : IsWholeMap input g r.object o m

-- what it is resolved by
abbrev pub resolver_of : Input → Placing → Object → WasmObjectIndexMap → Resolver
resolver_of input g o m = record {
  map = m;
  symbols = o.symbols;
  slots = space_slots input;
  bases = bases_of g;
}

pub answers_as : (input : Input) (g : Placing) (r : Relocated) (taking : Taking)
    (result other : Result ℕ RelocError) → result ≡ other → AnswersValue input g r taking other
    → AnswersValue input g r taking result
answers_as input g r taking result other is h =
    subst (λ (x : Result ℕ RelocError). AnswersValue input g r taking x) (sym is) h

-- ---- what is left to be added

pub left_zero : (a : WasmDataAddress) (r : WasmRelocation) → is_absolute r.ty ≡ false
    → left_of a r ≡ pos 0
left_zero address.Missing r e = refl
left_zero (address.Placed place) r e = rw e refl
left_zero address.Passive r e = refl
left_zero (address.TlsOffset place) r e = refl

pub left_addend : (a : WasmDataAddress) (r : WasmRelocation) → is_absolute r.ty ≡ true
    → left_of a r ≡ addend_left Memory a r.addend
left_addend address.Missing r e = refl
left_addend (address.Placed place) r e = rw e refl
left_addend address.Passive r e = refl
left_addend (address.TlsOffset place) r e = refl

-- ---- the number that would stand there

minus_zero : (n : ℕ) (z : ℤ) → (pos n -ℤ pos 0) +ℤ z ≡ pos n +ℤ z
minus_zero n z = omega (arith, ints)

number_by_base : (base : AddressBase) (bases : AddressBases) (a : WasmDataAddress) (addend : ℤ)
    → number_by (counted_base (Address base) bases) a addend ≡ number_taken base bases a addend
number_by_base Memory bases address.Missing addend = minus_zero 0 addend
number_by_base Memory bases (address.Placed place) addend = minus_zero place addend
number_by_base Memory bases address.Passive addend = refl
number_by_base Memory bases (address.TlsOffset place) addend = minus_zero place addend
number_by_base MemoryBase bases address.Missing addend = refl
number_by_base MemoryBase bases (address.Placed place) addend = refl
number_by_base MemoryBase bases address.Passive addend = refl
number_by_base MemoryBase bases (address.TlsOffset place) addend = minus_zero place addend
number_by_base ThreadData bases address.Missing addend = refl
number_by_base ThreadData bases (address.Placed place) addend = refl
number_by_base ThreadData bases address.Passive addend = refl
number_by_base ThreadData bases (address.TlsOffset place) addend = minus_zero place addend

pub number_is : (taking : Taking) (base : AddressBase) (bases : AddressBases)
    (a : WasmDataAddress) (addend : ℤ) → taking ≡ Address base
    → number_by (counted_base taking bases) a addend ≡ number_taken base bases a addend
number_is taking base bases a addend is =
    ap (λ (t : Taking). number_by (counted_base t bases) a addend) is
    ∙ number_by_base base bases a addend

-- ---- rows of objects

pub maps_within : (input : Input) (g : Placing) (maps : List WasmObjectIndexMap) (object : ℕ)
    → AreWholeMaps input g maps → object < length input.link.objects → object < length maps
maps_within input g maps object h lt =
    omega (arith, lt, rows_length (IsWholeMap input g) 0 input.link.objects maps h)

pub map_of : (input : Input) (g : Placing) (maps : List WasmObjectIndexMap) (object : ℕ) (o : Object)
    (m : WasmObjectIndexMap) → AreWholeMaps input g maps → slice_get input.link.objects object ≡ Some o
    → slice_get maps object ≡ Some m → IsWholeMap input g object o m
map_of input g maps object o m h here at =
    row_found (IsWholeMap input g) input.link.objects maps object o m h here at

-- ---- the address of a data symbol

address_cases : (input : Input) (g : Placing) (object : ℕ) (o : Object) (m : WasmObjectIndexMap)
    (index : ℕ) → slice_get input.link.objects object ≡ Some o → IsWholeMap input g object o m
    → (index < length o.symbols ⊎ length o.symbols ≤ index)
    → unwrap_or (slice_get m.data_addresses index) address.Missing ≡ symbol_address input g object index
address_cases input g object o m index here h (inl lt) =
    let listed : slice_get m.data_addresses index ≡ Some (symbol_address input g object index) =
    ap (λ (xs : List WasmDataAddress). slice_get xs index) h.addresses
    ∙ of_range (symbol_address input g object) (length o.symbols) index lt in
    ap (λ (x : Option WasmDataAddress). unwrap_or x address.Missing) listed
address_cases input g object o m index here h (inr past) =
    let f : ℕ → WasmDataAddress = symbol_address input g object in
    let count : length (map f (range_with_len 0 (length o.symbols))) ≡ length o.symbols =
    length-map-range_with_len f 0 (length o.symbols) in
    let listed : slice_get m.data_addresses index ≡ None =
    ap (λ (xs : List WasmDataAddress). slice_get xs index) h.addresses
    ∙ slice_get_past (map f (range_with_len 0 (length o.symbols))) index (omega (arith, past, count)) in
    let no_symbol : symbol_in input.link.objects object index ≡ None =
    ap (option_and_then (λ (p : Object). slice_get p.symbols index)) here
    ∙ slice_get_past o.symbols index past in
    let none : symbol_address input g object index ≡ address.Missing = rw no_symbol refl in
    ap (λ (x : Option WasmDataAddress). unwrap_or x address.Missing) listed ∙ sym none

pub address_found : (input : Input) (g : Placing) (object : ℕ) (o : Object) (m : WasmObjectIndexMap)
    (index : ℕ) → slice_get input.link.objects object ≡ Some o → IsWholeMap input g object o m
    → unwrap_or (slice_get m.data_addresses index) address.Missing ≡ symbol_address input g object index
address_found input g object o m index here h =
    address_cases input g object o m index here h (cases_lt index (length o.symbols))

-- ---- types

module _ (input : Input) (g : Placing) (r : Relocated) (o : Object) (m : WasmObjectIndexMap)
    (known : IsKnown input g r o m) where
  same_object : (p : Object) → slice_get input.link.objects r.object ≡ Some p → p ≡ o
  same_object p here = same_Some p o (sym here ∙ known.here)

  type_answers : names_a_type r.relocation.ty ≡ true
      → AnswersValue input g r TypeIndex (taken (resolver_of input g o m) r.relocation TypeIndex)
  type_answers names =
      let h = known.laws.types input r known.settled known.kept names in
      let live : live_type input r.object o r.relocation.index ≡ Some h.ty =
      subst (λ (p : Object). live_type input r.object p r.relocation.index ≡ Some h.ty)
      (same_object h.object h.here) h.live in
      let at = index_at (output_types input) (local_types input r.object o) m.type_indices
      r.relocation.index h.ty known.map.types live in
      let named : type_named input r ≡ Some h.ty =
      ap (option_and_then (λ (p : Object). live_type input r.object p r.relocation.index)) known.here
      ∙ live in
      answers_as input g r TypeIndex (kept_index (slice_get m.type_indices r.relocation.index))
      (Ok at.0) (ap kept_index at.1
      ∙ index_kept (output_types input) at.0 h.ty known.room.types at.2)
      (refl, (h.ty, named, at.2))

  -- ---- symbols

  record Names : Type 0 where
    symbol : LinkedSymbol
    at : slice_get o.symbols r.relocation.index ≡ Some symbol
    takes : takes_kind r.relocation.ty symbol.kind ≡ true
    within : r.relocation.index < length o.symbols

  named : names_a_type r.relocation.ty ≡ false → Names
  named none =
      let h = known.laws.symbols input r known.settled known.kept none in
      let at : slice_get o.symbols r.relocation.index ≡ Some h.symbol =
      subst (λ (p : Object). slice_get p.symbols r.relocation.index ≡ Some h.symbol)
      (same_object h.object h.here) h.at in
      record {
        symbol = h.symbol;
        at = at;
        takes = h.taken;
        within = slice_get_within o.symbols r.relocation.index h.symbol at;
      }

  -- of the symbol that it names
  of_symbol : (take : LinkedSymbol → Result ℕ RelocError) (s : LinkedSymbol)
      → slice_get o.symbols r.relocation.index ≡ Some s
      → taken_of take (slice_get o.symbols r.relocation.index) ≡ take s
  of_symbol take s at = ap (taken_of take) at

  -- ---- functions

  function_kind : (k : WasmSymbolKind) → is_function k ≡ true → k ≡ kind.Func
  function_kind kind.Func e = refl
  function_kind kind.Data e = absurd cc
  function_kind kind.Global e = absurd cc
  function_kind kind.Section e = absurd cc
  function_kind kind.Event e = absurd cc
  function_kind kind.Table e = absurd cc

  kept_target : (t : FunctionTarget) → IsInOutput input t → is_kept_target input t ≡ true
  kept_target (function.Defined object number) h = h.kept
  kept_target (function.Made made) h = refl
  kept_target (function.Host object slot) h = refl
  kept_target (function.Stub object slot) h = refl

  record Leads : Type 0 where
    target : FunctionTarget
    leads : fun input r.object r.relocation.index ≡ Some target
    entry : symbol_function input r.object r.relocation.index ≡ Some (FunctionOf target)
    place : ℕ
    index : function_index (resolver_of input g o m) kind.Func r.relocation.index ≡ Ok place
    stands : slice_get (function_space input) place ≡ Some (FunctionOf target)
    names : names_function input r ≡ true

  leads_to : (n : Names) → names_a_type r.relocation.ty ≡ false
      → is_function n.symbol.kind ≡ true → Leads
  leads_to n none is =
      let at = n.at in
      let symbol : symbol_of input r ≡ Some n.symbol =
      ap (option_and_then (λ (p : Object). slice_get p.symbols r.relocation.index)) known.here ∙ at in
      let names : names_function input r ≡ true =
      ap (λ (s : Option LinkedSymbol). option_map_or
      (λ (t : LinkedSymbol). is_function t.kind) s false) symbol ∙ is in
      let h = known.laws.functions input r known.settled known.kept none names in
      let entry : symbol_function input r.object r.relocation.index ≡ Some (FunctionOf h.target) =
      ap (option_and_then (entry_of input)) h.leads
      ∙ ap (λ (b : Bool). if b then Some (FunctionOf h.target) else None)
      (kept_target h.target h.there_is) in
      let listed : slice_get (symbol_functions input r.object o) r.relocation.index
      ≡ Some (Some (FunctionOf h.target)) =
      of_range (symbol_function input r.object) (length o.symbols) r.relocation.index n.within
      ∙ ap (λ (x : Option FunctionEntry). Some x) entry in
      let found = place_at (function_space input) (symbol_functions input r.object o)
      m.function_symbol_redirects r.relocation.index (FunctionOf h.target) known.map.redirects
      listed in
      record {
        target = h.target;
        leads = h.leads;
        entry = entry;
        place = found.0;
        index = ap redirect found.1;
        stands = found.2;
        names = names;
      }

  index_of : (n : Names) → is_function n.symbol.kind ≡ true → (l : Leads)
      → function_index (resolver_of input g o m) n.symbol.kind r.relocation.index ≡ Ok l.place
  index_of n is l =
      ap (λ (k : WasmSymbolKind). function_index (resolver_of input g o m) k r.relocation.index)
      (function_kind n.symbol.kind is)
      ∙ l.index

  function_answers : names_a_type r.relocation.ty ≡ false
      → (n : Names) → is_function n.symbol.kind ≡ true
      → AnswersValue input g r FunctionIndex (taken (resolver_of input g o m) r.relocation FunctionIndex)
  function_answers none n is =
      let l = leads_to n none is in
      answers_as input g r FunctionIndex
      (taken (resolver_of input g o m) r.relocation FunctionIndex) (Ok l.place)
      (of_symbol
      (λ s. function_index (resolver_of input g o m) s.kind r.relocation.index) n.symbol n.at
      ∙ index_of n is l)
      (refl, (FunctionOf l.target, l.entry, l.stands))

  -- ---- slots

  record Slotted : Type 0 where
    slot : ℕ
    named_slot : slot_named input r ≡ Some slot
    resolves : (s : LinkedSymbol) → slice_get o.symbols r.relocation.index ≡ Some s
        → is_function s.kind ≡ true
        → resolved_slot (resolver_of input g o m)
        (function_index (resolver_of input g o m) s.kind r.relocation.index) ≡ Ok slot

  slotted : (n : Names) → names_a_type r.relocation.ty ≡ false
      → is_function n.symbol.kind ≡ true
      → (is_table_index r.relocation.ty || is_global_index r.relocation.ty) ≡ true → Slotted
  slotted n none is asks =
      let l = leads_to n none is in
      let has = known.laws.slots input r l.target known.settled known.kept asks l.names l.leads in
      let s = slot_is known.table input l.target known.room.table has in
      let own : slot_of_entry input (FunctionOf l.target) ≡ s.slot =
      ap (λ (x : Option ℕ). unwrap_or x WASM_DEAD_INDEX) s.is in
      let at : slice_get (space_slots input) l.place ≡ Some s.slot =
      slice_get-map (slot_of_entry input) (function_space input) l.place
      ∙ (ap (option_map (slot_of_entry input)) l.stands ∙ ap (λ (x : ℕ). Some x) own) in
      let live : slot_in (Some s.slot) ≡ Ok s.slot = rw (not_dead s.slot s.low) refl in
      record {
        slot = s.slot;
        named_slot = ap (option_and_then (slot_of input)) l.leads ∙ s.is;
        resolves = λ t there is_one.
            ap (λ (k : WasmSymbolKind). resolved_slot (resolver_of input g o m)
            (function_index (resolver_of input g o m) k r.relocation.index))
            (function_kind t.kind is_one)
            ∙ (ap (resolved_slot (resolver_of input g o m)) l.index
            ∙ (ap slot_in at ∙ live));
      }

  slot_answers : names_a_type r.relocation.ty ≡ false
      → (n : Names) → is_function n.symbol.kind ≡ true
      → (is_table_index r.relocation.ty || is_global_index r.relocation.ty) ≡ true
      → AnswersValue input g r Slot (taken (resolver_of input g o m) r.relocation Slot)
  slot_answers none n is asks =
      let s = slotted n none is asks in
      answers_as input g r Slot
      (taken (resolver_of input g o m) r.relocation Slot) (Ok s.slot)
      (of_symbol
      (λ t. resolved_slot (resolver_of input g o m)
      (function_index (resolver_of input g o m) t.kind r.relocation.index)) n.symbol n.at
      ∙ s.resolves n.symbol n.at is)
      (refl, s.named_slot)

  relative_answers : names_a_type r.relocation.ty ≡ false
      → (n : Names) → is_function n.symbol.kind ≡ true
      → (is_table_index r.relocation.ty || is_global_index r.relocation.ty) ≡ true
      → AnswersValue input g r SlotBehindBase (taken (resolver_of input g o m) r.relocation SlotBehindBase)
  relative_answers none n is asks =
      let s = slotted n none is asks in
      answers_as input g r SlotBehindBase
      (taken (resolver_of input g o m) r.relocation SlotBehindBase) (Ok (s.slot - 1))
      (of_symbol
      (λ t. behind_first (resolved_slot (resolver_of input g o m)
      (function_index (resolver_of input g o m) t.kind r.relocation.index))) n.symbol n.at
      ∙ ap behind_first (s.resolves n.symbol n.at is))
      (refl, ap (option_map (λ (slot : ℕ). slot - 1)) s.named_slot)

  -- ---- globals

  record Resolves (k : WasmSymbolKind) (number index : ℕ) (x : GlobalEntry) : Type 0 where
    place : ℕ
    is : global_index (resolver_of input g o m) k number index ≡ Ok place
    stands : slice_get (global_space input) place ≡ Some x

  global_resolves : (k : WasmSymbolKind) (index : ℕ) (x : GlobalEntry)
      → r.relocation.index < length o.symbols
      → symbol_global input r o k index ≡ Some x
      → Resolves k r.relocation.index index x
  global_resolves kind.Global index x within e =
      let at = index_at (global_space input) (local_globals input r.object o) m.global_indices index x
      known.map.globals e in
      record {
        place = at.0;
        is = ap kept_index at.1 ∙ index_kept (global_space input) at.0 x known.room.globals at.2;
        stands = at.2;
      }
  global_resolves kind.Data index x within e =
      let listed : slice_get (got_mem_globals input r.object o) r.relocation.index ≡ Some (Some x) =
      of_range (got_mem_global input r.object o) (length o.symbols) r.relocation.index within
      ∙ ap (λ (y : Option GlobalEntry). Some y) e in
      let at = place_at (global_space input) (got_mem_globals input r.object o) m.got_mem_globals
      r.relocation.index x known.map.got_mem listed in
      record { place = at.0; is = ap got_global at.1; stands = at.2 }
  global_resolves kind.Func index x within e =
      let listed : slice_get (got_func_globals input r.object o) r.relocation.index ≡ Some (Some x) =
      of_range (got_func_global input r.object o) (length o.symbols) r.relocation.index within
      ∙ ap (λ (y : Option GlobalEntry). Some y) e in
      let at = place_at (global_space input) (got_func_globals input r.object o) m.got_func_globals
      r.relocation.index x known.map.got_func listed in
      record { place = at.0; is = ap got_global at.1; stands = at.2 }
  global_resolves kind.Section index x within e = absurd cc
  global_resolves kind.Event index x within e = absurd cc
  global_resolves kind.Table index x within e = absurd cc

  global_answers : is_global_index r.relocation.ty ≡ true
      → AnswersValue input g r GlobalIndex (taken (resolver_of input g o m) r.relocation GlobalIndex)
  global_answers is =
      let h = known.laws.globals input r known.settled known.kept is in
      let same = same_object h.named.object h.named.here in
      let s = h.named.symbol in
      let at : slice_get o.symbols r.relocation.index ≡ Some s =
      subst (λ (p : Object). slice_get p.symbols r.relocation.index ≡ Some s) same h.named.at in
      let stands : symbol_global input r o s.kind s.index ≡ Some h.global =
      subst (λ (p : Object). symbol_global input r p s.kind s.index
      ≡ Some h.global) same h.stands in
      let found = global_resolves s.kind s.index h.global
      (slice_get_within o.symbols r.relocation.index s at) stands in
      let named_one : global_named input r ≡ Some h.global =
      ap (option_and_then (λ (p : Object). option_and_then
      (λ (t : LinkedSymbol). symbol_global input r p t.kind t.index)
      (slice_get p.symbols r.relocation.index))) known.here
      ∙ (ap (option_and_then
      (λ (t : LinkedSymbol). symbol_global input r o t.kind t.index)) at
      ∙ stands) in
      answers_as input g r GlobalIndex
      (taken (resolver_of input g o m) r.relocation GlobalIndex) (Ok found.place)
      (of_symbol
      (λ t. global_index (resolver_of input g o m) t.kind r.relocation.index t.index) s at
      ∙ found.is)
      (refl, (h.global, named_one, found.stands))

  -- ---- tables

  table_kind : (k : WasmSymbolKind) → is_table k ≡ true → table_number k ≡ Ok 0
  table_kind kind.Table e = refl
  table_kind kind.Func e = absurd cc
  table_kind kind.Data e = absurd cc
  table_kind kind.Global e = absurd cc
  table_kind kind.Section e = absurd cc
  table_kind kind.Event e = absurd cc

  table_answers : (n : Names) → is_table n.symbol.kind ≡ true
      → AnswersValue input g r TableNumber (taken (resolver_of input g o m) r.relocation TableNumber)
  table_answers n is =
      answers_as input g r TableNumber
      (taken (resolver_of input g o m) r.relocation TableNumber) (Ok 0)
      (of_symbol (λ s. table_number s.kind) n.symbol n.at ∙ table_kind n.symbol.kind is)
      (refl, refl)

  -- ---- addresses

  data_kind : (k : WasmSymbolKind) → is_data k ≡ true → k ≡ kind.Data
  data_kind kind.Data e = refl
  data_kind kind.Func e = absurd cc
  data_kind kind.Global e = absurd cc
  data_kind kind.Section e = absurd cc
  data_kind kind.Event e = absurd cc
  data_kind kind.Table e = absurd cc

  value_answers : (base : AddressBase) (value : Result ℤ RelocError)
      → address_taken input g r base ≡ value
      → AnswersValue input g r (Address base) (as_word value)
  value_answers base (Ok z) at = (z, at, refl)
  value_answers base (Err why) at = (base, refl, at)

  address_answers : (base : AddressBase) → (n : Names) → is_data n.symbol.kind ≡ true
      → AnswersValue input g r (Address base)
      (taken (resolver_of input g o m) r.relocation (Address base))
  address_answers base n data_is =
      let by = resolver_of input g o m in
      let listed : slice_get m.data_addresses r.relocation.index ≡ Some (address_named input g r) =
      ap (λ (xs : List WasmDataAddress). slice_get xs r.relocation.index) known.map.addresses
      ∙ of_range (symbol_address input g r.object) (length o.symbols) r.relocation.index n.within in
      answers_as input g r (Address base)
      (taken by r.relocation (Address base)) (as_word (address_taken input g r base))
      (of_symbol (λ s. address_of by base r.relocation.addend s.kind r.relocation.index) n.symbol n.at
      ∙ (ap (λ (k : WasmSymbolKind). address_of by base r.relocation.addend k r.relocation.index)
      (data_kind n.symbol.kind data_is)
      ∙ ap (address_in by base r.relocation.addend) listed))
      (value_answers base (address_taken input g r base) refl)

  -- ---- all types

  by_taking : (taking : Taking) → taking_of r.relocation.ty ≡ taking
      → AnswersValue input g r taking (taken (resolver_of input g o m) r.relocation taking)
  by_taking taking is = by taking is
    where
      takes_at : (taking : Taking) → taking_of r.relocation.ty ≡ taking → (n : Names)
          → is_taken_of taking n.symbol.kind ≡ true
      takes_at taking is n =
          ap (λ (t : Taking). is_taken_of t n.symbol.kind) (sym is) ∙ n.takes

      symbols : (taking : Taking) → taking_of r.relocation.ty ≡ taking → is_type taking ≡ false
          → names_a_type r.relocation.ty ≡ false
      symbols taking is e = ap is_type is ∙ e

      asks : (taking : Taking) → taking_of r.relocation.ty ≡ taking
          → (is_slot taking || is_global taking) ≡ true
          → (is_table_index r.relocation.ty || is_global_index r.relocation.ty) ≡ true
      asks taking is e = ap (λ (t : Taking). is_slot t || is_global t) is ∙ e

      by : (taking : Taking) → taking_of r.relocation.ty ≡ taking
          → AnswersValue input g r taking (taken (resolver_of input g o m) r.relocation taking)
      by FunctionIndex is =
          let none = symbols FunctionIndex is refl in
          function_answers none (named none) (takes_at FunctionIndex is (named none))
      by Slot is =
          let none = symbols Slot is refl in
          slot_answers none (named none) (takes_at Slot is (named none)) (asks Slot is refl)
      by SlotBehindBase is =
          let none = symbols SlotBehindBase is refl in
          relative_answers none (named none)
          (takes_at SlotBehindBase is (named none)) (asks SlotBehindBase is refl)
      by TypeIndex is = type_answers (ap is_type is)
      by GlobalIndex is = global_answers (ap is_global is)
      by TableNumber is =
          let none = symbols TableNumber is refl in
          table_answers (named none) (takes_at TableNumber is (named none))
      by (Address base) is =
          let n = named (symbols (Address base) is refl) in
          address_answers base n (takes_at (Address base) is n)

-- what a kept relocation takes, or why it can't take its address
pub resolves_as : (input : Input) (g : Placing) (r : Relocated) (o : Object)
    (m : WasmObjectIndexMap) → IsKnown input g r o m
    → AnswersValue input g r (taking_of r.relocation.ty)
    (resolved (resolver_of input g o m) r.relocation)
resolves_as input g r o m known = by_taking input g r o m known (taking_of r.relocation.ty) refl

-- ---- why an address isn't taken

s32_reason : (b : Bool) (z : ℤ) (why : RelocError) → ◌≡◌ {A = Result ℤ RelocError}
    (if b then Ok z else Err reloc.Range) (Err why) → IsAddressReason why
s32_reason true z why e = absurd cc
s32_reason false z why e = inr (let same : why ≡ reloc.Range = cc in same)

unsupported : (why : RelocError) → ◌≡◌ {A = Result ℤ RelocError} (Err reloc.Unsupported) (Err why)
    → IsAddressReason why
unsupported why e = inl (let same : why ≡ reloc.Unsupported = cc in same)

behind_reason : (b : Bool) (z : ℤ) (why : RelocError) → ◌≡◌ {A = Result ℤ RelocError}
    (if b then Err reloc.Range else s32_or_range z) (Err why) → IsAddressReason why
behind_reason true z why e = inr (let same : why ≡ reloc.Range = cc in same)
behind_reason false z why e = s32_reason (is_s32 z) z why e

value_reason : (base : AddressBase) (b : AddressBases) (a : WasmDataAddress) (addend : ℤ)
    (why : RelocError) → address_value base b a addend ≡ Err why → IsAddressReason why
value_reason Memory b address.Missing addend why e = absurd cc
value_reason Memory b (address.Placed place) addend why e = absurd cc
value_reason Memory b address.Passive addend why e = unsupported why e
value_reason Memory b (address.TlsOffset offset) addend why e = unsupported why e
value_reason MemoryBase b address.Missing addend why e =
    let z = (pos 0 -ℤ pos b.memory_base) +ℤ addend in s32_reason (is_s32 z) z why e
value_reason MemoryBase b (address.Placed place) addend why e =
    let z = (pos place -ℤ pos b.memory_base) +ℤ addend in s32_reason (is_s32 z) z why e
value_reason MemoryBase b address.Passive addend why e = unsupported why e
value_reason MemoryBase b (address.TlsOffset offset) addend why e = unsupported why e
value_reason ThreadData b address.Missing addend why e = absurd cc
value_reason ThreadData b (address.Placed place) addend why e =
    behind_reason (nat_lt place b.tls_base) ((pos place -ℤ pos b.tls_base) +ℤ addend) why e
value_reason ThreadData b address.Passive addend why e = unsupported why e
value_reason ThreadData b (address.TlsOffset offset) addend why e =
    let z = pos offset +ℤ addend in s32_reason (is_s32 z) z why e

-- its value doesn't fit, or it has none there
pub reason_of : (input : Input) (g : Placing) (r : Relocated) (base : AddressBase)
    (why : RelocError) → address_taken input g r base ≡ Err why → IsAddressReason why
reason_of input g r base why e =
    value_reason base (bases_of g) (address_named input g r) r.relocation.addend why e

some_place : (b : Bool) (z : ℤ) (why : RelocError) → ◌≡◌ {A = Result (Option ℤ) RelocError}
    (as_some (if b then Ok z else Err reloc.Range)) (Err why) → IsAddressReason why
some_place true z why e = absurd cc
some_place false z why e = inr (let same : why ≡ reloc.Range = cc in same)

stored_reason : (form : FieldForm) (z : ℤ) (why : RelocError) → stored_by_thread form z ≡ Err why
    → IsAddressReason why
stored_reason Word z why e = some_place (is_s32 z) z why e
stored_reason PaddedUnsigned z why e = inl (let same : why ≡ reloc.Unsupported = cc in same)
stored_reason PaddedSigned z why e = inl (let same : why ≡ reloc.Unsupported = cc in same)

deferred_reason : (has : Bool) (form : FieldForm) (z : ℤ) (why : RelocError)
    → ◌≡◌ {A = Result (Option ℤ) RelocError} (if has then stored_by_thread form z else Ok None) (Err why)
    → IsAddressReason why
deferred_reason true form z why e = stored_reason form z why e
deferred_reason false form z why e = absurd cc

place_reason : (ty : RelocationType) (addend : ℤ) (a : WasmDataAddress) (why : RelocError)
    → deferred_at ty addend (Some a) ≡ Err why → IsAddressReason why
place_reason ty addend address.Missing why e = absurd cc
place_reason ty addend (address.Placed place) why e = absurd cc
place_reason ty addend address.Passive why e = absurd cc
place_reason ty addend (address.TlsOffset place) why e =
    deferred_reason (has_addend ty) (field_form ty) (pos place +ℤ addend) why e

start_reason : (input : Input) (g : Placing) (r : Relocated) (start : Option ℕ) (why : RelocError)
    → option_map_or (λ (n : ℕ). deferred_at r.relocation.ty r.relocation.addend
    (Some (address_named input g r))) start (Ok None) ≡ Err why → IsAddressReason why
start_reason input g r None why e = absurd cc
start_reason input g r (Some n) why e =
    place_reason r.relocation.ty r.relocation.addend (address_named input g r) why e

field_reason_by : (input : Input) (g : Placing) (r : Relocated) (base : AddressBase)
    (pointer : Result (Option ℤ) RelocError) (left : ℤ) (value : Result ℤ RelocError)
    (why : RelocError) → pointer_named input g r ≡ pointer → address_taken input g r base ≡ value
    → value_or_pointer pointer left value ≡ Err why → IsAddressReason why
field_reason_by input g r base (Err other) left value why p v e =
    let same : other ≡ why = cc in
    start_reason input g r (template_start g r) why
    (p ∙ ap (λ (x : RelocError). Err x) same)
field_reason_by input g r base (Ok (Some offset)) left value why p v e = absurd cc
field_reason_by input g r base (Ok None) left (Err other) why p v e =
    let same : other ≡ why = cc in
    reason_of input g r base why (v ∙ ap (λ (x : RelocError). Err x) same)
field_reason_by input g r base (Ok None) left (Ok z) why p v e = absurd cc

-- the same of what the field takes
pub field_reason : (input : Input) (g : Placing) (r : Relocated) (base : AddressBase)
    (why : RelocError) → field_taken input g r base ≡ Err why → IsAddressReason why
field_reason input g r base why e =
    field_reason_by input g r base (pointer_named input g r)
    (addend_left base (address_named input g r) r.relocation.addend) (address_taken input g r base)
    why refl refl e

-- what takes an address isn't refused one
pub not_refused : (input : Input) (g : Placing) (r : Relocated) (to : FixupTo)
    (base : AddressBase) (why : RelocError) → IsTaken input g r (taking_of r.relocation.ty) to
    → taking_of r.relocation.ty ≡ Address base → field_taken input g r base ≡ Err why → ⊥
not_refused input g r to base why h takes fault =
    let is : field_taken input g r base ≡ Ok to =
    subst (λ (x : Taking). IsTaken input g r x to) takes h in
    absurd (let e : ◌≡◌ {A = Result FixupTo RelocError} (Ok to) (Err why) = sym is ∙ fault in cc)

-- the same, with what is known given one by one
abbrev pub given : WasmObjectIndexMap → List LinkedSymbol → List ℕ → Placing → Resolver
given m symbols slots g =
    record { map = m; symbols = symbols; slots = slots; bases = bases_of g }

pub answers_by : (input : Input) (g : Placing) (r : Relocated) (o : Object)
    (m : WasmObjectIndexMap) (symbols : List LinkedSymbol) (slots : List ℕ)
    → IsKnown input g r o m → symbols ≡ o.symbols → slots ≡ space_slots input
    → AnswersValue input g r (taking_of r.relocation.ty)
    (resolved (given m symbols slots g) r.relocation)
answers_by input g r o m symbols slots known symbols_are slots_are =
    answers_as input g r (taking_of r.relocation.ty)
    (resolved (given m symbols slots g) r.relocation)
    (resolved (resolver_of input g o m) r.relocation)
    (ap (λ (xs : List LinkedSymbol). resolved (given m xs slots g) r.relocation) symbols_are
    ∙ ap (λ (xs : List ℕ). resolved (given m o.symbols xs g) r.relocation) slots_are)
    (resolves_as input g r o m known)

-- ---- by what fixups are made from

pub known_by : (s : FixupSources) (r : Relocated) (o : Object) (m : WasmObjectIndexMap) → Laws
    → TableLaws → AreFixupSources s → Contains (relocations s.book.now.input.now) r
    → slice_get s.book.now.input.now.link.objects r.object ≡ Some o → slice_get s.maps.now r.object ≡ Some m
    → IsKnown s.book.now.input.now s.book.now.placing.now r o m
known_by s r o m laws table sources kept here at = record {
  laws = laws;
  table = table;
  settled = sources.settled;
  room = sources.room;
  kept = kept;
  here = here;
  map = map_of s.book.now.input.now s.book.now.placing.now s.maps.now r.object o m sources.maps here at;
}

-- what a relocation is resolved to, as an answer
pub answers_of : (s : FixupSources) (r : Relocated) (o : Object) (m : WasmObjectIndexMap)
    (symbols : List LinkedSymbol) (result : Result ℕ RelocError) → Laws
    → TableLaws → AreFixupSources s → Contains (relocations s.book.now.input.now) r
    → slice_get s.book.now.input.now.link.objects r.object ≡ Some o → slice_get s.maps.now r.object ≡ Some m
    → symbols ≡ o.symbols
    → result ≡ resolved (given m symbols s.slots.now s.book.now.placing.now) r.relocation
    → AnswersFrom s r result
answers_of s r o m symbols result laws table sources kept here at symbols_are is =
    answers_as s.book.now.input.now s.book.now.placing.now r (taking_of r.relocation.ty) result
    (resolved (given m symbols s.slots.now s.book.now.placing.now) r.relocation) is
    (answers_by s.book.now.input.now s.book.now.placing.now r o m symbols s.slots.now
    (known_by s r o m laws table sources kept here at) symbols_are sources.slots)

-- what takes an address isn't refused
pub clear_of : (s : FixupSources) (r : Relocated) (to : FixupTo)
    → IsTaken s.book.now.input.now s.book.now.placing.now r (taking_of r.relocation.ty) to
    → Clear (IsRefusedAt s r)
clear_of s r to h = record {
  none = λ e f. not_refused s.book.now.input.now s.book.now.placing.now r to f.base f.why h f.takes f.fault;
}
