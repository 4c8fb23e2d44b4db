-- Each function of the output has a type, which is one of the output's.
use Rattle.std.proofs.Common.{◌≡◌, ◌∙◌, ◌||◌, ◌==◌, ◌<◌, ℕ, zero, suc, ◌+◌, Bool, true, false, List, [], ◌∷◌, ◌++◌, length, filter_map, refl, sym, ap, subst, arith, inl, inr, Option, Some, slice_get, slice_index, Contains, nat_lt, if◌then◌else◌}
use Rattle.std.specs.List.{list_any, range_with_len}
use Rattle.std.specs.Option.{option_and_then, option_map_or}
use Rattle.std.proofs.lemmas.Bool.{ltb-true, and_from, or_left, or_right}
use Rattle.std.proofs.lemmas.Option.{get_or_from_slice_get, same_Some}
use Rattle.wl_module.specs.SameType.{types_equiv}
use Rattle.wl_module.specs.Types.{FunctionType, same_type}
use Rattle.wl_linking.specs.Fitting.{IsWhole, IsFitting}
use Rattle.wl_linking.specs.Object.{Object}
use Rattle.wl_linking.specs.Spaces.{spaces_of, type_exists}
use Rattle.wl_custom.specs.declared.symbols.WasmSymbolKind.TheVariants.{Func}
use Rattle.wl_symbols.specs.declared.linker_symbol.WasmLinkerSymbol.{WasmLinkerSymbol}
use Rattle.wl_symbols.specs.declared.linker_symbol.WasmLinkerSymbol.TheVariants.{CallCtors, InitTls}
use Rattle.wl_symbols.specs.declared.units.WasmGcUnit.TheVariants.{DefinedFunction}
use Rattle.wl_symbols.specs.ImportSlots.{ImportSlot, object_slots}
use Rattle.wl_symbols.specs.Left.{HostImport, first_imports, first_slot}
use Rattle.wl_bind.specs.EntryTypes.{type_of_slot, type_of_entry, HasOutputType, HasTypeIndex}
use Rattle.wl_bind.specs.BindingSteps.{slot_numbers, number_at}
use Rattle.wl_bind.specs.FunctionBinding.{link_stubs, host_functions, binds_function}
use Rattle.wl_bind.specs.FunctionSpace.{FunctionEntry, FunctionOf, InitMemory, kept_functions, function_space}
use Rattle.wl_bind.specs.FunctionTypes.{type_in, type_number, slot_type, type_of_made, stub_types}
use Rattle.wl_symbols.specs.Input.{Input, keeps}
use Rattle.wl_symbols.specs.KeptSlots.{is_kept_slot}
use Rattle.wl_bind.specs.Made.{is_made, has_init_memory}
use Rattle.wl_bind.specs.OutputTypes.{is_type_of_function, is_type_of_host, names_type, is_live_type, local_types, live_types, made_type, init_memory_type, made_types, output_types, AreTypeIndices}
use Rattle.wl_bind.specs.Parts.{by_object, IsIndexOf}
use Rattle.wl_bind.specs.References.{IsSettled}
use Rattle.wl_symbols.specs.Relocations.{object_relocations}
use Rattle.wl_bind.specs.Shared.{function_imports}
use Rattle.wl_bind.specs.Undefined.{is_host_function, is_host_slot}
use Rattle.wl_bind.specs.declared.binding.FunctionTarget.TheVariants.{Defined, Made, Host, Stub}
use Rattle.wl_lists.proofs.Beside.{zip_right}
use Rattle.wl_lists.proofs.Found.{any_in, and_then_some}
use Rattle.wl_lists.proofs.In.{in_back, in_front, list_in, in_list, IsIn, in_at, in_filter, Came, in_map}
use Rattle.wl_lists.proofs.Places.{all_at, test_at, there_is}
use Rattle.wl_lists.proofs.Rows.{object_in}
use Rattle.wl_bind.proofs.FirstSlotLaws.{LeftSlot, IsFirst, stub_itself, host_itself}
use Rattle.wl_bind.proofs.ListLaws.{made_of_one}
use Rattle.wl_bind.proofs.ListedLaws.{still_in}
use Rattle.wl_bind.proofs.ReferenceLaws.{live_there}
use Rattle.wl_bind.proofs.FunctionCases.{all_functions}
use Rattle.wl_bind.proofs.SameLaws.{eqb_self}
use Rattle.wl_bind.proofs.StubTypeLaws.{slot_typed}
use Rattle.wl_bind.proofs.TypeLaws.{slot_numbered}

-- ---- lists

range_below : (a n z : ℕ) → IsIn (range_with_len a n) z → z < a + n
range_below a zero z h = absurd h
range_below a (suc n) z (inl e) = omega (arith, e)
range_below a (suc n) z (inr r) = let lt = range_below (a + 1) n z r in omega (arith, lt)

-- ---- types of the output

abbrev pub AreOne : Type 0
AreOne = (a b : FunctionType) → same_type a b ≡ true → a ≡ b

abbrev pub AreFitting : Type 0
AreFitting = (o : Object) → IsWhole o → IsFitting o

-- all that the output takes
abbrev all_types : Input → List FunctionType
all_types input = by_object (live_types input) 0 input.link.objects ++ made_types input

in_output : AreOne → (input : Input) (ty : FunctionType) → IsIn (all_types input) ty → Contains (output_types input) ty
in_output one input ty h =
    in_list (output_types input) ty (still_in same_type one (all_types input) ty (types_equiv.refl ty) h)

live_in_output : AreOne → (input : Input) (i : ℕ) (o : Object) (number : ℕ) (ty : FunctionType)
    → slice_get input.link.objects i ≡ Some o → slice_get o.types number ≡ Some ty → is_live_type input i o number ≡ true
    → Contains (output_types input) ty
live_in_output one input i o number ty here at live =
    let list : List (Option FunctionType) = local_types input i o in
    let there : IsIn (live_types input i o) ty =
    made_of_one (λ (x : Option FunctionType). x) list (Some ty) ty
    (in_at list number (Some ty) (live_there input i o number ty at live)) refl in
    in_output one input ty
    (in_front (by_object (live_types input) 0 input.link.objects) (made_types input) ty
    (object_in (live_types input) 0 i i input.link.objects o ty (omega arith) here there))

made_in_output : AreOne → (input : Input) (ty : FunctionType) → IsIn (made_types input) ty → Contains (output_types input) ty
made_in_output one input ty h =
    in_output one input ty (in_back (by_object (live_types input) 0 input.link.objects) (made_types input) ty h)

-- ---- what is imported

slot_has : (input : Input) (t : ImportSlot) (ty : FunctionType) → LeftSlot input t → slot_type input.link.objects t ≡ Some ty
    → type_of_slot input t.object t.number ≡ Some ty
slot_has input t ty left is =
    ap (λ (x : Option ImportSlot). option_and_then (slot_type input.link.objects) x) left.slot.at ∙ is

-- a slot that is left to the host names a live type of its object
record HostLive (input : Input) (t : ImportSlot) : Type 0 where
  pub left : LeftSlot input t
  pub number : ℕ
  pub numbered : type_number t.item.entity ≡ Some number
  pub ty : FunctionType
  pub typed : slot_type input.link.objects t ≡ Some ty
  pub at : slice_get left.slot.object.types number ≡ Some ty
  pub live : is_live_type input t.object left.slot.object number ≡ true

host_live : AreFitting → (input : Input) → IsSettled input → (t : ImportSlot) → IsIn (first_imports (host_functions input)) t → HostLive input t
host_live fitting input settled t h =
    let first : IsFirst input t (Host t.object t.number) = host_itself input t h in
    let left : LeftSlot input t = first.left in
    let o : Object = left.slot.object in
    let typed = slot_typed input.link.objects t settled.whole fitting left.among in
    let numbered = and_then_some (type_in input.link.objects t.object) (type_number t.item.entity) typed.0 typed.1 in
    let n : ℕ = numbered.0 in
    let host : is_host_slot input Func t ≡ true =
    and_from (is_kept_slot input t) (is_host_function (binds_function input t)) left.kept (ap is_host_function first.bound) in
    let number : option_map_or (λ m. m == n) (type_number t.item.entity) false ≡ true =
    ap (λ (x : Option ℕ). option_map_or (λ m. m == n) x false) numbered.1 ∙ eqb_self n in
    let any : list_any (is_type_of_host input n) (object_slots t.object Func o) ≡ true =
    any_in (is_type_of_host input n) (object_slots t.object Func o) t left.slot.among
    (and_from (is_host_slot input Func t) (option_map_or (λ m. m == n) (type_number t.item.entity) false) host number) in
    let named : Bool = list_any (names_type n) (object_relocations input.live t.object o) in
    record {
      left = left;
      number = n;
      numbered = numbered.1;
      ty = typed.0;
      typed = typed.1;
      at = sym (ap (λ (x : Option Object). option_and_then (λ (p : Object). slice_get p.types n) x) left.slot.here) ∙ numbered.2;
      live = or_left (is_type_of_function input t.object o n || list_any (is_type_of_host input n) (object_slots t.object Func o)) named
          (or_right (is_type_of_function input t.object o n) (list_any (is_type_of_host input n) (object_slots t.object Func o)) any);
    }

host_typed : AreOne → AreFitting → (input : Input) → IsSettled input → (t : ImportSlot)
    → IsIn (first_imports (host_functions input)) t → HasOutputType input (FunctionOf (Host t.object t.number))
host_typed one fitting input settled t h =
    let l : HostLive input t = host_live fitting input settled t h in
    record {
      ty = l.ty;
      has = slot_has input t l.ty l.left l.typed;
      one = live_in_output one input t.object l.left.slot.object l.number l.ty l.left.slot.here l.at l.live;
    }

stub_typed : AreOne → AreFitting → (input : Input) → IsSettled input → (t : ImportSlot)
    → IsIn (link_stubs input) t → HasOutputType input (FunctionOf (Stub t.object t.number))
stub_typed one fitting input settled t h =
    let left : LeftSlot input t = (stub_itself input t h).left in
    let typed = slot_typed input.link.objects t settled.whole fitting left.among in
    let there : IsIn (stub_types input) typed.0 = made_of_one (slot_type input.link.objects) (link_stubs input) t typed.0 h typed.1 in
    record {
      ty = typed.0;
      has = slot_has input t typed.0 left typed.1;
      one = made_in_output one input typed.0
          (in_back (made_type input CallCtors ++ made_type input InitTls ++ init_memory_type input) (stub_types input) typed.0 there);
    }

-- ---- what the linker makes

made_there : (input : Input) (m : WasmLinkerSymbol) (ty : FunctionType) → is_made input m ≡ true → type_of_made m ≡ Some ty
    → IsIn (made_type input m) ty
made_there input m ty so is =
    subst (λ (b : Bool). IsIn (if b then filter_map type_of_made (m ∷ []) else []) ty) (sym so)
    (made_of_one type_of_made (m ∷ []) m ty (inl refl) is)

ctors_typed : AreOne → (input : Input) → is_made input CallCtors ≡ true → HasOutputType input (FunctionOf (Made CallCtors))
ctors_typed one input so =
    let ty : FunctionType = record { params = []; results = [] } in
    record {
      ty = ty;
      has = refl;
      one = made_in_output one input ty
          (in_front (made_type input CallCtors ++ made_type input InitTls ++ init_memory_type input) (stub_types input) ty
          (in_front (made_type input CallCtors ++ made_type input InitTls) (init_memory_type input) ty
          (in_front (made_type input CallCtors) (made_type input InitTls) ty (made_there input CallCtors ty so refl))));
    }

tls_typed : AreOne → (input : Input) → is_made input InitTls ≡ true → HasOutputType input (FunctionOf (Made InitTls))
tls_typed one input so =
    let typed : (ty : FunctionType) × (type_of_made InitTls ≡ Some ty) = (_, refl) in
    record {
      ty = typed.0;
      has = typed.1;
      one = made_in_output one input typed.0
          (in_front (made_type input CallCtors ++ made_type input InitTls ++ init_memory_type input) (stub_types input) typed.0
          (in_front (made_type input CallCtors ++ made_type input InitTls) (init_memory_type input) typed.0
          (in_back (made_type input CallCtors) (made_type input InitTls) typed.0
          (made_there input InitTls typed.0 so typed.1))));
    }

memory_typed : AreOne → (input : Input) → has_init_memory input ≡ true → HasOutputType input InitMemory
memory_typed one input so =
    let ty : FunctionType = record { params = []; results = [] } in
    let there : IsIn (init_memory_type input) ty = subst (λ (b : Bool). IsIn (if b then ty ∷ [] else []) ty) (sym so) (inl refl) in
    record {
      ty = ty;
      has = refl;
      one = made_in_output one input ty
          (in_front (made_type input CallCtors ++ made_type input InitTls ++ init_memory_type input) (stub_types input) ty
          (in_back (made_type input CallCtors ++ made_type input InitTls) (init_memory_type input) ty there));
    }

-- ---- what objects define

-- a kept function has a live type of its object
record OwnLive (input : Input) (i : ℕ) (o : Object) (k : ℕ) : Type 0 where
  pub number : ℕ
  pub numbered : slice_get o.functions k ≡ Some number
  pub ty : FunctionType
  pub at : slice_get o.types number ≡ Some ty
  pub live : is_live_type input i o number ≡ true

own_live : AreFitting → (input : Input) → IsSettled input → (i : ℕ) (o : Object) (k : ℕ)
    → slice_get input.link.objects i ≡ Some o → IsIn (kept_functions input i o) k → OwnLive input i o k
own_live fitting input settled i o k here h =
    let fit : IsFitting o = fitting o (all_at IsWhole input.link.objects i o settled.whole here) in
    let among : IsIn (range_with_len 0 (length o.functions)) k =
    in_filter (λ n. keeps input i (DefinedFunction n)) (range_with_len 0 (length o.functions)) k h in
    let below = range_below 0 (length o.functions) k among in
    let number = there_is o.functions k (omega (arith, below)) in
    let n : ℕ = number.0 in
    let there : nat_lt n (length o.types) ≡ true = test_at (type_exists (spaces_of o)) o.functions k n fit.names.functions number.1 in
    let typed = there_is o.types n (ltb-true n (length o.types) there) in
    let index : slice_index o.functions k ≡ n = get_or_from_slice_get o.functions k n 0 number.1 in
    let any : is_type_of_function input i o n ≡ true =
    any_in (λ j. slice_index o.functions j == n) (kept_functions input i o) k h (ap (λ (x : ℕ). x == n) index ∙ eqb_self n) in
    record {
      number = n;
      numbered = number.1;
      ty = typed.0;
      at = typed.1;
      live = or_left (is_type_of_function input i o n || list_any (is_type_of_host input n) (object_slots i Func o))
          (list_any (names_type n) (object_relocations input.live i o))
          (or_left (is_type_of_function input i o n) (list_any (is_type_of_host input n) (object_slots i Func o)) any);
    }

own_has : (input : Input) (i : ℕ) (o : Object) (k : ℕ) → slice_get input.link.objects i ≡ Some o → (l : OwnLive input i o k) → type_of_entry input (FunctionOf (Defined i k)) ≡ Some l.ty
own_has input i o k here l =
    ap (λ (x : Option Object). option_and_then (λ (p : Object). option_and_then (slice_get p.types) (slice_get p.functions k)) x) here
    ∙ (ap (λ (x : Option ℕ). option_and_then (slice_get o.types) x) l.numbered ∙ l.at)

defined_typed : AreOne → AreFitting → (input : Input) → IsSettled input → (i : ℕ) (o : Object) (k : ℕ)
    → slice_get input.link.objects i ≡ Some o → IsIn (kept_functions input i o) k → HasOutputType input (FunctionOf (Defined i k))
defined_typed one fitting input settled i o k here h =
    let l : OwnLive input i o k = own_live fitting input settled i o k here h in
    record { ty = l.ty; has = own_has input i o k here l; one = live_in_output one input i o l.number l.ty here l.at l.live }

-- ---- all functions

pub entry_typed : AreOne → AreFitting → (input : Input) (entry : FunctionEntry) → IsSettled input
    → Contains (function_space input) entry → HasOutputType input entry
entry_typed one fitting input entry settled listed =
    all_functions input (λ e. HasOutputType input e) (host_typed one fitting input settled) (ctors_typed one input) (tls_typed one input)
    (memory_typed one input) (stub_typed one fitting input settled) (defined_typed one fitting input settled) entry listed

-- ---- by the map of an object

-- a live type has its index there
indexed : (input : Input) (i : ℕ) (o : Object) (number : ℕ) (ty : FunctionType) (indices : List ℕ) (entry : FunctionEntry)
    → slice_get o.types number ≡ Some ty → is_live_type input i o number ≡ true → AreTypeIndices input i o indices → type_of_entry input entry ≡ Some ty
    → HasTypeIndex input entry indices number
indexed input i o number ty indices entry at live are has =
    let z = zip_right (IsIndexOf (output_types input)) (local_types input i o) indices number (Some ty) are (live_there input i o number ty at live) in
    record { ty = ty; has = has; index = z.0; at = z.1; typed = z.2 }

pub own_indexed : AreFitting → (input : Input) (i : ℕ) (o : Object) (indices : List ℕ) (k : ℕ) → IsSettled input → slice_get input.link.objects i ≡ Some o
    → AreTypeIndices input i o indices → Contains (kept_functions input i o) k
    → (number : ℕ) × (slice_get o.functions k ≡ Some number) × HasTypeIndex input (FunctionOf (Defined i k)) indices number
own_indexed fitting input i o indices k settled here are kept =
    let l : OwnLive input i o k = own_live fitting input settled i o k here (list_in (kept_functions input i o) k kept) in
    (l.number, l.numbered, indexed input i o l.number l.ty indices (FunctionOf (Defined i k)) l.at l.live are (own_has input i o k here l))

host_slot_indexed : AreFitting → (input : Input) (t : ImportSlot) (o : Object) (indices : List ℕ) → IsSettled input → IsIn (first_imports (host_functions input)) t
    → slice_get input.link.objects t.object ≡ Some o → AreTypeIndices input t.object o indices
    → (number : ℕ) × (number_at (slot_numbers input.link.objects) t.object t.number ≡ Some number) × HasTypeIndex input (FunctionOf (Host t.object t.number)) indices number
host_slot_indexed fitting input t o indices settled h here are =
    let l : HostLive input t = host_live fitting input settled t h in
    let same : o ≡ l.left.slot.object = same_Some o l.left.slot.object (sym here ∙ l.left.slot.here) in
    let number : number_at (slot_numbers input.link.objects) t.object t.number ≡ Some l.number =
    sym (slot_numbered input.link.objects t.object t.number)
    ∙ (ap (λ (x : Option ImportSlot). option_and_then (λ (s : ImportSlot). type_number s.item.entity) x) l.left.slot.at ∙ l.numbered) in
    let own : AreTypeIndices input t.object l.left.slot.object indices = subst (λ (p : Object). AreTypeIndices input t.object p indices) same are in
    (l.number, number, indexed input t.object l.left.slot.object l.number l.ty indices (FunctionOf (Host t.object t.number)) l.at l.live own (slot_has input t l.ty l.left l.typed))

pub host_indexed : AreFitting → (input : Input) (h : HostImport) (o : Object) (indices : List ℕ) → IsSettled input → Contains (function_imports input) h
    → slice_get input.link.objects h.object ≡ Some o → AreTypeIndices input h.object o indices
    → (number : ℕ) × (number_at (slot_numbers input.link.objects) h.object h.slot ≡ Some number) × HasTypeIndex input (FunctionOf (Host h.object h.slot)) indices number
host_indexed fitting input h o indices settled listed here are =
    let c : Came first_slot (first_imports (host_functions input)) h = in_map first_slot (first_imports (host_functions input)) h (list_in (function_imports input) h listed) in
    let P : HostImport → Type 0 = λ g. slice_get input.link.objects g.object ≡ Some o → AreTypeIndices input g.object o indices
    → (number : ℕ) × (number_at (slot_numbers input.link.objects) g.object g.slot ≡ Some number) × HasTypeIndex input (FunctionOf (Host g.object g.slot)) indices number in
    subst P c.to (λ at row. host_slot_indexed fitting input c.from o indices settled c.there at row) here are
