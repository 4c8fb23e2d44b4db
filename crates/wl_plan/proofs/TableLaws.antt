-- Indices of functions, and the functions of the table by them.
use Rattle.std.proofs.Common.{◌≡◌, ◌∙◌, ℕ, zero, suc, ◌+◌, ◌<◌, ◌≤◌, Bool, true, false, not, List, [], ◌∷◌, ◌++◌, length, refl, sym, ap, subst, arith, inl, inr, Option, Some, None, slice_get, get_or, map, take, drop, max, flat_map, find, position, unwrap_or, if◌then◌else◌, bytes_eq, length-append, Contains}
use Rattle.std.specs.List.{AllZip, list_any, range_with_len}
use Rattle.std.specs.Option.{option_map, option_map_or, option_and_then, option_or, is_none}
use Rattle.std.proofs.lemmas.Bool.{cases_Bool}
use Rattle.std.proofs.lemmas.List.{take_all, length-map, drop_all}
use Rattle.std.proofs.lemmas.List.Quantifiers.{position-Some}
use Rattle.std.proofs.lemmas.Option.{get_or_from_slice_get, slice_get-get_or}
use Rattle.std.proofs.lemmas.Slice.Eq.{bytes_eq-Decides}
use Rattle.indexmap.specs.IndexSet.{insert_all}
use Rattle.wl_module.specs.Imports.{Imported}
use Rattle.wl_module.specs.declared.imports.ExternalKind.TheVariants as external
use Rattle.wl_linking.specs.Object.{Object}
use Rattle.wl_linking.specs.Spaces.{count_imports}
use Rattle.wl_custom.specs.declared.symbols.WasmSymbolKind.{WasmSymbolKind}
use Rattle.wl_custom.specs.declared.symbols.WasmSymbolKind.TheVariants.{Func}
use Rattle.wl_index.specs.declared.index_map.WasmObjectIndexMap.{WasmObjectIndexMap}
use Rattle.wl_symbols.specs.ImportSlots.{ImportSlot, object_slots, import_slots}
use Rattle.wl_symbols.specs.Left.{same_field, same_import, first_like, is_stub, first_imports}
use Rattle.wl_symbols.specs.SlotTargets.{by_definition, by_symbol_name, by_field_name, slot_target}
use Rattle.wl_symbols.specs.declared.targets.SlotTarget.{SlotTarget}
use Rattle.wl_symbols.specs.declared.targets.SlotTarget.TheVariants as slot
use Rattle.wl_symbols.specs.declared.linker_symbol.WasmLinkerSymbol.{WasmLinkerSymbol}
use Rattle.wl_symbols.specs.declared.linker_symbol.WasmLinkerSymbol.TheVariants as made
use Rattle.wl_index.specs.declared.index.TheConstants.{MAX_ENTRIES}
use Rattle.wl_bind.specs.FunctionBinding.{left_functions, link_stubs, host_functions, named_function, by_stub, by_host, binds_function}
use Rattle.wl_bind.specs.FunctionSpace.{FunctionEntry, FunctionOf, host_function_part, function_space, function_slot_entry, own_function_entry, local_functions}
use Rattle.wl_symbols.specs.Input.{Input}
use Rattle.wl_symbols.specs.KeptSlots.{slots_from, is_kept_slot, kept_slots}
use Rattle.wl_bind.specs.Made.{is_made, table_minimum, greatest}
use Rattle.wl_bind.specs.MadeIndices.{StandsAt, IsMadeIndex}
use Rattle.wl_bind.specs.Parts.{IsIndexOf, IsPlaceOf}
use Rattle.wl_bind.specs.References.{IsBoundTo, IsInOutput, IsKeptFunction, IsMadeFunction}
use Rattle.wl_bind.specs.Sameness.{same_target}
use Rattle.wl_bind.specs.Scan.{table_functions}
use Rattle.wl_bind.specs.declared.binding.FunctionTarget.{FunctionTarget}
use Rattle.wl_bind.specs.declared.binding.FunctionTarget.TheVariants.{Defined, Made, Host, Stub}
use Rattle.wl_places.specs.IndexedMaps.{IsWholeMap, AreWholeMaps}
use Rattle.wl_plan.specs.Table.{IsElement}
use Rattle.wl_plan.specs.steps.Table.{index_at, table_minimums}
use Rattle.wl_places.specs.declared.placing.Placing.{Placing}
use Rattle.wl_lists.proofs.Beside.{zip_joined, zip_right}
use Rattle.wl_lists.proofs.Firsts.{any_kept}
use Rattle.wl_lists.proofs.Found.{any_last}
use Rattle.wl_lists.proofs.In.{place_in, filter_in, IsIn, in_at, in_list, in_split, in_front, in_back, in_map, map_in}
use Rattle.wl_lists.proofs.Once.{Distinct}
use Rattle.wl_lists.proofs.Places.{mapped_at, came_at, get_in_front, get_behind}
use Rattle.wl_lists.proofs.Rows.{row_of_object}
use Rattle.wl_plan.proofs.FunctionLaws.{ctors_stand, host_stands, if_in, kept_stands, take_next, tls_stands}
use Rattle.wl_plan.proofs.ListLaws.{of_range}
use Rattle.wl_places.proofs.PlacingLaws.{greatest-append}

-- ---- a function in the map of an object

-- the map of the object has at the place the index of the function
pub record Indexed (input : Input) (maps : List WasmObjectIndexMap) (object place : ℕ) (target : FunctionTarget)
    : Type 0 where
  pub map_is : WasmObjectIndexMap
  pub at : slice_get maps object ≡ Some map_is
  pub index : ℕ
  pub here : slice_get map_is.function_indices place ≡ Some index
  pub stands : slice_get (function_space input) index ≡ Some (FunctionOf target)

indexed : (input : Input) (g : Placing) (maps : List WasmObjectIndexMap) (object place : ℕ) (o : Object)
    (target : FunctionTarget) → AreWholeMaps input g maps → slice_get input.link.objects object ≡ Some o
    → slice_get (local_functions input object o) place ≡ Some (Some (FunctionOf target))
    → Indexed input maps object place target
indexed input g maps object place o target all at here =
    let r = row_of_object (IsWholeMap input g) 0 input.link.objects maps object object o all at
    (omega arith) in
    let z = zip_right (IsIndexOf (function_space input)) (local_functions input object o)
    r.row.function_indices place (Some (FunctionOf target)) r.is.functions here in
    record { map_is = r.row; at = r.here; index = z.0; here = z.1; stands = z.2 }

pub defined_indexed : (input : Input) (g : Placing) (maps : List WasmObjectIndexMap) (object function : ℕ)
    → ((object : ℕ) (o : Object) → length (object_slots object Func o) ≡ count_imports external.Func o.imports)
    → AreWholeMaps input g maps → (is : IsKeptFunction input object function)
    → Indexed input maps object (count_imports external.Func is.definer.imports + function) (Defined object function)
defined_indexed input g maps object function numbered all is =
    let o : Object = is.definer in
    let slots : List (Option FunctionEntry) = map (function_slot_entry input) (object_slots object Func o) in
    let own : List (Option FunctionEntry) = map (own_function_entry input object) (range_with_len 0 (length o.functions)) in
    let place : ℕ = count_imports external.Func o.imports + function in
    let len : length slots ≡ count_imports external.Func o.imports =
    length-map (object_slots object Func o) (function_slot_entry input) ∙ numbered object o in
    let entry : own_function_entry input object function ≡ Some (FunctionOf (Defined object function)) =
    ap (λ (b : Bool). if b then Some (FunctionOf (Defined object function)) else None) is.kept in
    indexed input g maps object place o (Defined object function) all is.here
    (get_behind slots own function place (ap (λ (n : ℕ). n + function) len)
    ∙ (of_range (own_function_entry input object) (length o.functions) function is.within
    ∙ ap (λ (e : Option FunctionEntry). Some e) entry))

-- the object that has a slot
slot_of_one : (objects : List Object) (object slot : ℕ) (t : ImportSlot)
    → slice_get (import_slots objects object Func) slot ≡ Some t
    → (o : Object) × (slice_get objects object ≡ Some o) × (slice_get (object_slots object Func o) slot ≡ Some t)
slot_of_one objects object slot t at = by_case (slice_get objects object) refl at
  where
    by_case : (found : Option Object) → slice_get objects object ≡ found
        → slice_get (option_map_or (object_slots object Func) found []) slot ≡ Some t
        → (o : Object) × (slice_get objects object ≡ Some o) × (slice_get (object_slots object Func o) slot ≡ Some t)
    by_case None is at = absurd cc
    by_case (Some o) is at = (o, is, at)

pub bound_indexed : (input : Input) (g : Placing) (maps : List WasmObjectIndexMap) (object slot : ℕ)
    (target : FunctionTarget) → AreWholeMaps input g maps → IsBoundTo input object slot target
    → Indexed input maps object slot target
bound_indexed input g maps object slot target all is =
    let found = slot_of_one input.link.objects object slot is.slot_is is.here in
    let o : Object = found.0 in
    let slots : List (Option FunctionEntry) = map (function_slot_entry input) (object_slots object Func o) in
    let own : List (Option FunctionEntry) = map (own_function_entry input object) (range_with_len 0 (length o.functions)) in
    let entry : function_slot_entry input is.slot_is ≡ Some (FunctionOf target) =
    ap (λ (b : Bool). if b then Some (FunctionOf (binds_function input is.slot_is)) else None) is.kept
    ∙ ap (λ (t : FunctionTarget). Some (FunctionOf t)) is.bound in
    indexed input g maps object slot o target all found.1
    (get_in_front slots own slot (Some (FunctionOf target))
    (mapped_at (function_slot_entry input) (object_slots object Func o) slot is.slot_is found.2
    ∙ ap (λ (e : Option FunctionEntry). Some e) entry))

-- the index is found
pub place_found : (input : Input) (maps : List WasmObjectIndexMap) (object place : ℕ) (target : FunctionTarget)
    (result : Option ℕ) → Indexed input maps object place target → result ≡ index_at maps object place
    → IsPlaceOf (function_space input) (Some (FunctionOf target)) result
place_found input maps object place target result is told =
    let there : result ≡ Some is.index =
    told ∙ (ap (λ (m : Option WasmObjectIndexMap). option_and_then
    (λ (w : WasmObjectIndexMap). slice_get w.function_indices place) m) is.at ∙ is.here) in
    let P : Option ℕ → Type 0 = λ p. IsPlaceOf (function_space input) (Some (FunctionOf target)) p in
    subst P (sym there) is.stands

-- the object of a kept function is the one that is read
pub same_object : (input : Input) (object function : ℕ) (is : IsKeptFunction input object function) (o : Object)
    (files : List Object) → files ≡ input.link.objects → o ≡ get_or files object o → o ≡ is.definer
same_object input object function is o files same at =
    at ∙ (ap (λ (os : List Object). get_or os object o) same
    ∙ get_or_from_slice_get input.link.objects object is.definer o is.here)

pub defined_found : (input : Input) (g : Placing) (maps : List WasmObjectIndexMap) (object function n : ℕ)
    (o : Object) (result : Option ℕ)
    → ((object : ℕ) (o : Object) → length (object_slots object Func o) ≡ count_imports external.Func o.imports)
    → AreWholeMaps input g maps → (is : IsKeptFunction input object function) → o ≡ is.definer
    → n ≡ count_imports external.Func o.imports → result ≡ index_at maps object (n + function)
    → IsPlaceOf (function_space input) (Some (FunctionOf (Defined object function))) result
defined_found input g maps object function n o result numbered all is same count told =
    let number : n ≡ count_imports external.Func is.definer.imports =
    count ∙ ap (λ (p : Object). count_imports external.Func p.imports) same in
    place_found input maps object (count_imports external.Func is.definer.imports + function) (Defined object function)
    result (defined_indexed input g maps object function numbered all is)
    (told ∙ ap (λ (m : ℕ). index_at maps object (m + function)) number)

pub bound_found : (input : Input) (g : Placing) (maps : List WasmObjectIndexMap) (object slot : ℕ)
    (target : FunctionTarget) (result : Option ℕ) → AreWholeMaps input g maps → IsBoundTo input object slot target
    → result ≡ index_at maps object slot → IsPlaceOf (function_space input) (Some (FunctionOf target)) result
bound_found input g maps object slot target result all is told =
    place_found input maps object slot target result (bound_indexed input g maps object slot target all is) told

-- ---- a function that the linker makes

pub made_found : (input : Input) (m : WasmLinkerSymbol) (result : Option ℕ) → IsMadeFunction input m
    → IsMadeIndex input m result → IsPlaceOf (function_space input) (Some (FunctionOf (Made m))) result
made_found input m None is none = let made = is.made in absurd cc
made_found input m (Some index) is stands =
    let P : WasmSymbolKind → Type 0 = λ kind. StandsAt input m kind index in
    subst P is.kind stands

-- ---- a function, by its case

pub place_as : (input : Input) (a target : FunctionTarget) (result : Option ℕ) → target ≡ a
    → IsPlaceOf (function_space input) (Some (FunctionOf a)) result
    → IsPlaceOf (function_space input) (Some (FunctionOf target)) result
place_as input a target result same is =
    let P : FunctionTarget → Type 0 = λ t. IsPlaceOf (function_space input) (Some (FunctionOf t)) result in
    subst P (sym same) is

pub host_here : (input : Input) (target : FunctionTarget) (o s : ℕ) → target ≡ Host o s → IsInOutput input target
    → IsBoundTo input o s target
host_here input target o s same is =
    let P : FunctionTarget → Type 0 = λ t. IsInOutput input t in
    let Q : FunctionTarget → Type 0 = λ t. IsBoundTo input o s t in
    subst Q (sym same) (subst P same is)

pub stub_here : (input : Input) (target : FunctionTarget) (o s : ℕ) → target ≡ Stub o s → IsInOutput input target
    → IsBoundTo input o s target
stub_here input target o s same is =
    let P : FunctionTarget → Type 0 = λ t. IsInOutput input t in
    let Q : FunctionTarget → Type 0 = λ t. IsBoundTo input o s t in
    subst Q (sym same) (subst P same is)

pub made_here : (input : Input) (target : FunctionTarget) (m : WasmLinkerSymbol) → target ≡ Made m
    → IsInOutput input target → IsMadeFunction input m
made_here input target m same is =
    let P : FunctionTarget → Type 0 = λ t. IsInOutput input t in
    subst P same is

-- ---- elements

-- what is read from the table's functions
pub target_at : (input : Input) (k : ℕ) (d : FunctionTarget) (items : List FunctionTarget)
    → items ≡ table_functions input → k < length items
    → slice_get (table_functions input) k ≡ Some (get_or items k d)
target_at input k d items same lt =
    subst (λ (ts : List FunctionTarget). slice_get ts k ≡ Some (get_or items k d)) same (slice_get-get_or items k d lt)

pub target_listed : (input : Input) (k : ℕ) (d : FunctionTarget) (items : List FunctionTarget)
    → items ≡ table_functions input → k < length items → Contains (table_functions input) (get_or items k d)
target_listed input k d items same lt =
    in_list (table_functions input) (get_or items k d)
    (in_at (table_functions input) k (get_or items k d) (target_at input k d items same lt))

-- one more element
pub element_more : (input : Input) (k : ℕ) (target : FunctionTarget) (index : ℕ) (old new : List ℕ)
    → slice_get (table_functions input) k ≡ Some target
    → slice_get (function_space input) index ≡ Some (FunctionOf target) → new ≡ old ++ index ∷ []
    → AllZip (IsElement input) (take k (table_functions input)) old
    → AllZip (IsElement input) (take (k + 1) (table_functions input)) new
element_more input k target index old new at is pushed so_far =
    let next : k + 1 ≡ suc k = omega arith in
    let P : List FunctionTarget → Type 0 = λ ts. AllZip (IsElement input) ts (old ++ index ∷ []) in
    let Q : List ℕ → Type 0 = λ is. AllZip (IsElement input) (take (suc k) (table_functions input)) is in
    rw next (subst Q (sym pushed) (subst P (sym (take_next (table_functions input) k target at))
    (zip_joined (IsElement input) (take k (table_functions input)) (target ∷ []) old (index ∷ []) so_far (is, tt))))

pub elements_done : (input : Input) (k : ℕ) (new : List ℕ) → length (table_functions input) ≤ k
    → AllZip (IsElement input) (take k (table_functions input)) new
    → AllZip (IsElement input) (table_functions input) new
elements_done input k new le so_far =
    subst (λ (ts : List FunctionTarget). AllZip (IsElement input) ts new) (take_all k (table_functions input) le) so_far

-- ---- the size of the table

drop_next : {X : Type 0} (xs : List X) (k : ℕ) (x : X) → slice_get xs k ≡ Some x → drop k xs ≡ x ∷ drop (suc k) xs
drop_next [] k x e = absurd cc
drop_next {X} (y ∷ xs) zero x e = let same : y ≡ x = cc in ap (λ (z : X). z ∷ xs) same
drop_next (y ∷ xs) (suc k) x e = drop_next xs k x e

-- one more import
pub minimum_more : (imports : List Imported) (k : ℕ) (i : Imported) (old new all : ℕ) → slice_get imports k ≡ Some i
    → new ≡ max (table_minimum i.entity) old
    → max (greatest (map (λ (j : Imported). table_minimum j.entity) (drop k imports))) old ≡ all
    → max (greatest (map (λ (j : Imported). table_minimum j.entity) (drop (k + 1) imports))) new ≡ all
minimum_more imports k i old new all at is so_far =
    let next : k + 1 ≡ suc k = omega arith in
    let f : Imported → ℕ = λ j. table_minimum j.entity in
    let split : greatest (map f (drop k imports)) ≡ max (f i) (greatest (map f (drop (suc k) imports))) =
    ap (λ (js : List Imported). greatest (map f js)) (drop_next imports k i at) in
    rw next (omega (arith, split, is, so_far))

pub minimum_done : (imports : List Imported) (k size all : ℕ) → length imports ≤ k
    → max (greatest (map (λ (j : Imported). table_minimum j.entity) (drop k imports))) size ≡ all → size ≡ all
minimum_done imports k size all le so_far =
    let none : greatest (map (λ (j : Imported). table_minimum j.entity) (drop k imports)) ≡ 0 =
    ap (λ (js : List Imported). greatest (map (λ (j : Imported). table_minimum j.entity) js))
    (drop_all k imports le) in
    omega (arith, none, so_far)

-- one more object
pub size_more : (objects : List Object) (k : ℕ) (o : Object) (old new all : ℕ) → slice_get objects k ≡ Some o
    → new ≡ max (greatest (table_minimums o)) old
    → max old (greatest (flat_map table_minimums (drop k objects))) ≡ all
    → max new (greatest (flat_map table_minimums (drop (k + 1) objects))) ≡ all
size_more objects k o old new all at is so_far =
    let next : k + 1 ≡ suc k = omega arith in
    let split : greatest (flat_map table_minimums (drop k objects))
    ≡ max (greatest (table_minimums o)) (greatest (flat_map table_minimums (drop (suc k) objects))) =
    ap (λ (os : List Object). greatest (flat_map table_minimums os)) (drop_next objects k o at)
    ∙ greatest-append (table_minimums o) (flat_map table_minimums (drop (suc k) objects)) in
    rw next (omega (arith, split, is, so_far))

pub size_done : (objects : List Object) (k size all : ℕ) → length objects ≤ k
    → max size (greatest (flat_map table_minimums (drop k objects))) ≡ all → size ≡ all
size_done objects k size all le so_far =
    let none : greatest (flat_map table_minimums (drop k objects)) ≡ 0 =
    ap (λ (os : List Object). greatest (flat_map table_minimums os)) (drop_all k objects le) in
    omega (arith, none, so_far)

-- ---- how many functions the table has

distinct_from : {X : Type 0} (xs : List X)
    → ((i k : ℕ) (x : X) → slice_get xs i ≡ Some x → slice_get xs k ≡ Some x → i ≡ k) → Distinct xs
distinct_from [] once = tt
distinct_from (x ∷ xs) once = (
  λ h. (let p = place_in xs x h in let e = once 0 (suc p.0) x refl p.1 in absurd (omega (arith, e))),
  distinct_from xs (λ i k z a b. let e = once (suc i) (suc k) z a b in omega (arith, e)),
)

record Split {X : Type 0} (ys : List X) (x : X) : Type 0 where
  pub front : List X
  pub back : List X
  pub is : ys ≡ front ++ x ∷ back

split_at : {X : Type 0} (ys : List X) (x : X) → IsIn ys x → Split ys x
split_at [] x h = absurd h
split_at {X} (y ∷ ys) x h = elim h [
  | inl e ↦ record { front = []; back = ys; is = ap (λ (z : X). z ∷ ys) e }
  | inr r ↦ (let s = split_at ys x r in
      record { front = y ∷ s.front; back = s.back; is = ap (λ (zs : List X). y ∷ zs) s.is })
]

-- what stands once, all of it in another list, is no longer than that list
few : {X : Type 0} (xs ys : List X) → Distinct xs → ((z : X) → IsIn xs z → IsIn ys z) → length xs ≤ length ys
few [] ys d sub = omega arith
few {X} (x ∷ xs) ys d sub =
    let s = split_at ys x (sub x (inl refl)) in
    let smaller : (z : X) → IsIn xs z → IsIn (s.front ++ s.back) z = λ z h.
    elim (in_split s.front (x ∷ s.back) z (subst (λ (zs : List X). IsIn zs z) s.is (sub z (inr h)))) [
      | inl a ↦ in_front s.front s.back z a
      | inr b ↦ elim b [
        | inl e ↦ absurd (d.0 (subst (λ (w : X). IsIn xs w) (sym e) h))
        | inr r ↦ in_back s.front s.back z r
      ]
    ] in
    let rest = few xs (s.front ++ s.back) d.1 smaller in
    let a : length ys ≡ length s.front + suc (length s.back) =
    ap (λ (zs : List X). length zs) s.is ∙ length-append s.front (x ∷ s.back) in
    let b : length (s.front ++ s.back) ≡ length s.front + length s.back = length-append s.front s.back in
    omega (arith, rest, a, b)

-- ---- host imports stand in the space

first_onto : {X : Type 0} (same : X → X → Bool) (seen xs : List X) (t : X) → same t t ≡ true → IsIn xs t
    → list_any (same t) (insert_all same seen xs) ≡ true
first_onto same seen [] t self h = absurd h
first_onto {X} same seen (x ∷ xs) t self h = elim (cases_Bool (list_any (same x) seen)) [
  | inl y ↦ rw y (elim h [
    | inl e ↦ (let P : X → Type 0 = λ z. list_any (same z) seen ≡ true in any_kept (same t) same seen xs (subst P e y))
    | inr r ↦ first_onto same seen xs t self r
  ])
  | inr n ↦ rw n (elim h [
    | inl e ↦ (let P : X → Type 0 = λ z. same t z ≡ true in
        any_kept (same t) same (seen ++ x ∷ []) xs (any_last (same t) seen x (subst P (sym e) self)))
    | inr r ↦ first_onto same (seen ++ x ∷ []) xs t self r
  ])
]

find_in : {X : Type 0} (test : X → Bool) (xs : List X) → list_any test xs ≡ true
    → (x : X) × (find test xs ≡ Some x) × IsIn xs x
find_in test [] any = absurd cc
find_in test (y ∷ xs) any = elim (cases_Bool (test y)) [
  | inl t ↦ (y, rw t refl, inl refl)
  | inr n ↦ (let r = find_in test xs (rw n at any) in (r.0, rw n r.1, inr r.2))
]

no_named : (x : SlotTarget) (o s : ℕ) → named_function x ≡ Host o s → ⊥
no_named (slot.Defined object number) o s e = absurd cc
no_named (slot.Made m) o s e = absurd cc

record IsLeft (a b c : Option SlotTarget) (d : Option FunctionTarget) (h target : FunctionTarget) : Type 0 where
  pub names : option_or a (option_or b c) ≡ None
  pub stub : d ≡ None
  pub host : h ≡ target

left_host : (a b c : Option SlotTarget) (d : Option FunctionTarget) (h : FunctionTarget) (o s : ℕ)
    → ((f : FunctionTarget) → d ≡ Some f → f ≡ Host o s → ⊥)
    → unwrap_or (option_or (option_map named_function a) (option_or (option_map named_function b)
    (option_or (option_map named_function c) d))) h ≡ Host o s
    → IsLeft a b c d h (Host o s)
left_host (Some x) b c d h o s apart e = absurd (no_named x o s e)
left_host None (Some x) c d h o s apart e = absurd (no_named x o s e)
left_host None None (Some x) d h o s apart e = absurd (no_named x o s e)
left_host None None None (Some f) h o s apart e = absurd (apart f refl e)
left_host None None None None h o s apart e = record { names = refl; stub = refl; host = e }

stub_case : (is : Bool) (i k : ℕ) (f : FunctionTarget) (o s : ℕ)
    → (if is then Some (Stub i k) else None) ≡ Some f → f ≡ Host o s → ⊥
stub_case true i k f o s e h = let g : Stub i k ≡ f = cc in absurd cc
stub_case false i k f o s e h = absurd cc

no_stub_case : (is : Bool) (i k : ℕ) → (if is then Some (Stub i k) else None) ≡ None → is ≡ false
no_stub_case true i k e = absurd cc
no_stub_case false i k e = refl

same_self : (t : ImportSlot) → same_import t t ≡ true
same_self t =
    let a : bytes_eq t.item.origin t.item.origin ≡ true = (bytes_eq-Decides t.item.origin t.item.origin).1 refl in
    let b : bytes_eq t.item.name t.item.name ≡ true = (bytes_eq-Decides t.item.name t.item.name).1 refl in
    rw (a, b) refl

host_bound : (input : Input) (t : ImportSlot) (o s : ℕ) → IsIn (kept_slots input Func) t
    → binds_function input t ≡ Host o s → IsIn (host_function_part input) (FunctionOf (Host o s))
host_bound input t o s h bound =
    let objects : List Object = input.link.objects in
    let left : List ImportSlot = left_functions input in
    let hosts : List ImportSlot = first_imports (host_functions input) in
    let stub : ImportSlot = first_like same_field (link_stubs input) t in
    let is = left_host (by_definition input.link t) (by_symbol_name input.link t) (by_field_name input.link t)
    (by_stub input t) (by_host input t) o s
    (λ f e g. stub_case (is_stub objects left t) stub.object stub.number f o s e g) bound in
    let none : is_none (slot_target input.link t) ≡ true = ap (λ (x : Option SlotTarget). is_none x) is.names in
    let no_stub : not (is_stub objects left t) ≡ true =
    ap not (no_stub_case (is_stub objects left t) stub.object stub.number is.stub) in
    let in_left : IsIn left t =
    filter_in (λ (u : ImportSlot). is_none (slot_target input.link u)) (kept_slots input Func) t none h in
    let in_hosts : IsIn (host_functions input) t =
    filter_in (λ (u : ImportSlot). not (is_stub objects left u)) left t no_stub in_left in
    let found = find_in (same_import t) hosts
    (first_onto same_import [] (host_functions input) t (same_self t) in_hosts) in
    let x : ImportSlot = found.0 in
    let first : first_like same_import hosts t ≡ x = ap (λ (u : Option ImportSlot). unwrap_or u t) found.1 in
    let target : Host x.object x.number ≡ Host o s =
    ap (λ (u : ImportSlot). Host u.object u.number) (sym first) ∙ is.host in
    subst (λ (f : FunctionTarget). IsIn (host_function_part input) (FunctionOf f)) target
    (map_in (λ (u : ImportSlot). FunctionOf (Host u.object u.number)) hosts x found.2)

slots_in : (kind : WasmSymbolKind) (n i m : ℕ) (objects : List Object) (o : Object) (t : ImportSlot) → n + i ≡ m
    → slice_get objects i ≡ Some o → IsIn (object_slots m kind o) t → IsIn (slots_from kind n objects) t
slots_in kind n i m [] o t same at h = absurd cc
slots_in kind n zero m (p ∷ objects) o t same at h =
    let is : p ≡ o = cc in
    let number : m ≡ n = omega (arith, same) in
    let P : Object → Type 0 = λ q. IsIn (object_slots m kind q) t in
    let Q : ℕ → Type 0 = λ k. IsIn (object_slots k kind p) t in
    in_front (object_slots n kind p) (slots_from kind (n + 1) objects) t (subst Q number (subst P (sym is) h))
slots_in kind n (suc i) m (p ∷ objects) o t same at h =
    in_back (object_slots n kind p) (slots_from kind (n + 1) objects) t
    (slots_in kind (n + 1) i m objects o t (omega (arith, same)) at h)

host_in_space : (input : Input) (o s : ℕ) → IsBoundTo input o s (Host o s) → IsIn (function_space input) (FunctionOf (Host o s))
host_in_space input o s is =
    let t : ImportSlot = is.slot_is in
    let found = slot_of_one input.link.objects o s t is.here in
    let all : IsIn (slots_from Func 0 input.link.objects) t =
    slots_in Func 0 o o input.link.objects found.0 t (omega arith) found.1
    (in_at (object_slots o Func found.0) s t found.2) in
    host_stands input (FunctionOf (Host o s))
    (host_bound input t o s (filter_in (is_kept_slot input) (slots_from Func 0 input.link.objects) t is.kept all) is.bound)

made_in_space : (input : Input) (m : WasmLinkerSymbol) → IsMadeFunction input m → IsIn (function_space input) (FunctionOf (Made m))
made_in_space input made.CallCtors is =
    ctors_stand input (FunctionOf (Made made.CallCtors))
    (if_in (is_made input made.CallCtors) (FunctionOf (Made made.CallCtors)) is.made)
made_in_space input made.InitTls is =
    tls_stands input (FunctionOf (Made made.InitTls))
    (if_in (is_made input made.InitTls) (FunctionOf (Made made.InitTls)) is.made)
made_in_space input _ is = let k = is.kind in absurd cc

-- what the output has and is apart stub stands in the space
in_space : (input : Input) (target : FunctionTarget) → IsInOutput input target
    → ((o s : ℕ) → target ≡ Stub o s → ⊥) → IsIn (function_space input) (FunctionOf target)
in_space input (Defined object function) is apart =
    kept_stands input object is.definer function is.here is.within is.kept
in_space input (Made m) is apart = made_in_space input m is
in_space input (Host o s) is apart = host_in_space input o s is
in_space input (Stub o s) is apart = absurd (apart o s refl)

-- what is known of the functions of the table
pub record TableIs (input : Input) : Type 0 where
  pub kept : (target : FunctionTarget) → Contains (table_functions input) target → IsInOutput input target
  pub once : (i k : ℕ) (f g : FunctionTarget) → slice_get (table_functions input) i ≡ Some f
      → slice_get (table_functions input) k ≡ Some g → same_target f g ≡ true → i ≡ k
  pub itself : (a : FunctionTarget) → same_target a a ≡ true
  pub stubs : (i o s : ℕ) → slice_get (table_functions input) i ≡ Some (Stub o s) → ⊥

-- there are no more of them than functions
pub table_is_few : (input : Input) → TableIs input
    → length (table_functions input) ≤ length (function_space input)
table_is_few input is =
    let table : List FunctionTarget = table_functions input in
    let entries : List FunctionEntry = map FunctionOf table in
    let once : (i k : ℕ) (x : FunctionEntry) → slice_get (map FunctionOf table) i ≡ Some x
    → slice_get (map FunctionOf table) k ≡ Some x → i ≡ k = λ i k x a b.
    let f = came_at FunctionOf table i x a in
    let g = came_at FunctionOf table k x b in
    let same : FunctionOf f.0 ≡ FunctionOf g.0 = f.2 ∙ sym g.2 in
    let one : f.0 ≡ g.0 = cc in
    is.once i k f.0 f.0 f.1 (g.1 ∙ ap (λ (t : FunctionTarget). Some t) (sym one)) (is.itself f.0) in
    let inside : (z : FunctionEntry) → IsIn entries z → IsIn (function_space input) z = λ z h.
    let c = in_map FunctionOf table z h in
    let p = place_in table c.from c.there in
    subst (λ (e : FunctionEntry). IsIn (function_space input) e) c.to
    (in_space input c.from (is.kept c.from (in_list table c.from c.there))
    (λ o s e. is.stubs p.0 o s (p.1 ∙ ap (λ (t : FunctionTarget). Some t) e))) in
    let few-entries = few entries (function_space input) (distinct_from entries once) inside in
    let len = length-map table FunctionOf in
    omega (arith, few-entries, len)

-- the slot of one of them is a number of 32 bits
pub slot_fits : (input : Input) (target : FunctionTarget) (place : ℕ) → TableIs input
    → length (function_space input) ≤ MAX_ENTRIES → position (same_target target) (table_functions input) ≡ Some place
    → place + 1 ≤ MAX_ENTRIES
slot_fits input target place is room at =
    let found = position-Some (same_target target) (table_functions input) place target at in
    let lt = found.0 in
    let n = table_is_few input is in
    omega (arith, lt, n, room)
