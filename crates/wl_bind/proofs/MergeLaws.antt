-- Marks on the types of objects, and types that are merged.
use Rattle.std.proofs.Common.{◌≡◌, ◌∙◌, ◌<◌, ◌≤◌, ◌≢◌, ◌+◌, ◌||◌, ◌&&◌, ℕ, suc, Bool, true, false, ltb, eqb, List, [], ◌∷◌, ◌++◌, map, length, get_or, set, drop, Option, Some, None, refl, sym, ap, subst, arith, slice_get, append_assoc, append-nil, length-append, inl, inr, if◌then◌else◌, replicate, eq-eqb}
use Rattle.std.proofs.Math.Bool.{or_assoc, or-false, or-true}
use Rattle.std.specs.List.{list_any, filter, range_with_len}
use Rattle.std.specs.Option.{MatchOption, option_map_or, is_some}
use Rattle.std.proofs.lemmas.Bool.{cases_Bool, ltb-true, ltb-false, eqb-true, lt-ltb}
use Rattle.std.proofs.lemmas.List.{get_or-set_same, get_or-set_other, get_or-replicate, length-set, length-replicate, drop_all}
use Rattle.indexmap.specs.IndexSet.{insert_all}
use Rattle.wl_module.specs.Types.{FunctionType, same_type}
use Rattle.wl_linking.specs.Object.{Object}
use Rattle.wl_custom.specs.RelocationTypes.{names_a_type}
use Rattle.wl_custom.specs.declared.symbols.WasmSymbolKind.TheVariants.{Func}
use Rattle.wl_symbols.specs.declared.units.WasmGcUnit.TheVariants.{DefinedFunction}
use Rattle.wl_symbols.specs.ImportSlots.{object_slots, import_slots}
use Rattle.wl_symbols.specs.Input.{Input, keeps}
use Rattle.wl_bind.specs.FunctionSpace.{FunctionEntry, FunctionOf, InitMemory, function_space}
use Rattle.wl_bind.specs.FunctionTypes.{type_number, stub_types}
use Rattle.wl_bind.specs.Made.{is_made, has_init_memory}
use Rattle.wl_bind.specs.MadeIndices.{IsMadeIndex}
use Rattle.wl_bind.specs.steps.Shared.{is_host_of}
use Rattle.wl_symbols.specs.Relocations.{object_relocations}
use Rattle.wl_bind.specs.OutputTypes.{is_type_of_function, is_type_of_host, names_type, is_live_type, types_if, local_types, live_types, made_type, init_memory_type, made_types, output_types, AreTypeIndices}
use Rattle.wl_bind.specs.Parts.{by_object, AreRows, IsIndexOf, AreIndicesOf}
use Rattle.wl_types.specs.Types.{add_type, IsFull}
use Rattle.wl_linking.specs.declared.error.LinkError.{LinkError}
use Rattle.wl_linking.specs.declared.error.LinkError.TheVariants.{OutOfMemory, TooLarge}
use Rattle.wl_bind.specs.steps.Merging.{mark, mark_all, is_marked, AreMarked, function_types, host_type, host_types, named_type, present, merged, entry_if, type_where, made_functions}
use Rattle.wl_symbols.specs.declared.relocated.Relocated.{Relocated}
use Rattle.wl_bind.specs.declared.binding.FunctionTarget.TheVariants.{Made}
use Rattle.wl_module.specs.declared.types.ValType.TheVariants.{I32}
use Rattle.wl_symbols.specs.declared.linker_symbol.WasmLinkerSymbol.{WasmLinkerSymbol}
use Rattle.wl_symbols.specs.declared.linker_symbol.WasmLinkerSymbol.TheVariants.{CallCtors, InitTls}
use Rattle.wl_lists.proofs.In.{at_is_in}
use Rattle.wl_lists.proofs.Places.{get_in_front}
use Rattle.wl_bind.proofs.FunctionCases.{all_functions}
use Rattle.wl_bind.proofs.SharedLaws.{host_here}
use Rattle.wl_bind.proofs.ListLaws.{drop_here}

-- ---- marks

-- the number is named
abbrev is_number : ℕ → Option ℕ → Bool
is_number k number = option_map_or (λ n. eqb n k) number false

mark_len : (marks : List Bool) (number : Option ℕ) → length (mark marks number) ≡ length marks
mark_len marks None = refl
mark_len marks (Some n) =
    elim (cases_Bool (ltb n (length marks))) [
      | inl within ↦ rw within (length-set marks n true)
      | inr beyond ↦ rw beyond refl
    ]

mark_all_len : (marks : List Bool) (numbers : List (Option ℕ))
    → length (mark_all marks numbers) ≡ length marks
mark_all_len marks [] = refl
mark_all_len marks (n ∷ ns) = mark_all_len (mark marks n) ns ∙ mark_len marks n

other_number : (n k : ℕ) → eqb n k ≡ false → k ≢ n
other_number n k other same = let there = eq-eqb n k (sym same) in absurd cc

set_mark : (marks : List Bool) (n k : ℕ) → k < length marks
    → is_marked (set marks n true) k ≡ (is_marked marks k || eqb n k)
set_mark marks n k lt =
    elim (cases_Bool (eqb n k)) [
      | inl same ↦
          let is : n ≡ k = eqb-true n k same in
          let here : get_or (set marks k true) k false ≡ true =
          get_or-set_same marks k true false lt in
          rw (same, is) (here ∙ sym (or-true (get_or marks k false)))
      | inr other ↦
          rw other (get_or-set_other marks n k true false (other_number n k other)
          ∙ sym (or-false (get_or marks k false)))
    ]

mark_one : (marks : List Bool) (number : Option ℕ) (k : ℕ) → k < length marks
    → is_marked (mark marks number) k ≡ (is_marked marks k || is_number k number)
mark_one marks None k lt = sym (or-false (is_marked marks k))
mark_one marks (Some n) k lt =
    elim (cases_Bool (ltb n (length marks))) [
      | inl within ↦ rw within (set_mark marks n k lt)
      | inr beyond ↦
          let other : eqb n k ≡ false = elim (cases_Bool (eqb n k)) [
            | inl same ↦
                let is : n ≡ k = eqb-true n k same in
                absurd (omega (arith, lt, ltb-false n (length marks) beyond, is))
            | inr not ↦ not
          ] in
          rw (beyond, other) (sym (or-false (is_marked marks k)))
    ]

mark_each : (marks : List Bool) (numbers : List (Option ℕ)) (k : ℕ) → k < length marks
    → is_marked (mark_all marks numbers) k ≡ (is_marked marks k || list_any (is_number k) numbers)
mark_each marks [] k lt = sym (or-false (is_marked marks k))
mark_each marks (n ∷ ns) k lt =
    mark_each (mark marks n) ns k (omega (arith, lt, mark_len marks n))
    ∙ (ap (λ (b : Bool). b || list_any (is_number k) ns) (mark_one marks n k lt)
    ∙ or_assoc (is_marked marks k) (is_number k n) (list_any (is_number k) ns))

-- ---- what is marked

-- a test of what each gives
any_given : {X Y : Type 0} (p : Y → Bool) (f : X → Y) (q : X → Bool) (xs : List X)
    → ((k : ℕ) (x : X) → slice_get xs k ≡ Some x → p (f x) ≡ q x)
    → list_any p (map f xs) ≡ list_any q xs
any_given p f q [] same = refl
any_given p f q (x ∷ xs) same =
    ap (λ (b : Bool). b || list_any p (map f xs)) (same 0 x refl)
    ∙ ap (λ (b : Bool). q x || b) (any_given p f q xs (λ k y here. same (suc k) y here))

-- a number where something holds
number_if : (k : ℕ) (holds : Bool) (number : Option ℕ)
    → is_number k (if holds then number else None) ≡ (holds && is_number k number)
number_if k true number = refl
number_if k false number = refl

functions_here : (input : Input) (object k : ℕ) (g : ℕ → ℕ) (n : ℕ) (fs : List ℕ)
    → ((i j : ℕ) → i ≡ n + j → g i ≡ get_or fs j 0)
    → list_any (is_number k) (function_types input object n fs)
    ≡ list_any (λ i. eqb (g i) k) (filter (λ i. keeps input object (DefinedFunction i))
    (range_with_len n (length fs)))
functions_here input object k g n [] same = refl
functions_here input object k g n (f ∷ fs) same =
    let rest =
    functions_here input object k g (n + 1) fs (λ i j is. same i (suc j) (omega (arith, is))) in
    let first : g n ≡ f = same n 0 (omega arith) in
    elim (cases_Bool (keeps input object (DefinedFunction n))) [
      | inl kept ↦ rw (kept, first) (ap (λ (b : Bool). eqb f k || b) rest)
      | inr dropped ↦ rw dropped rest
    ]

functions_any : (input : Input) (object k : ℕ) (o : Object)
    → list_any (is_number k) (function_types input object 0 o.functions)
    ≡ is_type_of_function input object o k
functions_any input object k o =
    functions_here input object k (λ i. get_or o.functions i 0) 0 o.functions
    (λ i j is. let at : i ≡ j = omega (arith, is) in rw at refl)

hosts_any : (input : Input) (object k : ℕ) (o : Object)
    → slice_get input.link.objects object ≡ Some o
    → list_any (is_number k) (host_types input object)
    ≡ list_any (is_type_of_host input k) (object_slots object Func o)
hosts_any input object k o at =
    let slots = import_slots input.link.objects object Func in
    any_given (is_number k) (host_type input) (is_type_of_host input k) slots
    (λ n t here. number_if k (is_host_of input t) (type_number t.item.entity)
    ∙ ap (λ (host : Bool). host && is_number k (type_number t.item.entity))
    (host_here input object Func n t here))
    ∙ ap (λ (found : Option Object). list_any (is_type_of_host input k)
    (option_map_or (object_slots object Func) found [])) at

named_any : (k : ℕ) (rs : List Relocated)
    → list_any (is_number k) (map named_type rs) ≡ list_any (names_type k) rs
named_any k rs =
    any_given (is_number k) named_type (names_type k) rs
    (λ n r here. number_if k (names_a_type r.relocation.ty) (Some r.relocation.index))

-- the marks of an object, made in three steps
pub all_marked : (input : Input) (object : ℕ) (o : Object) (none fs hs rs : List Bool)
    → slice_get input.link.objects object ≡ Some o → none ≡ replicate (length o.types) false
    → fs ≡ mark_all none (function_types input object 0 o.functions)
    → hs ≡ mark_all fs (host_types input object)
    → rs ≡ mark_all hs (map named_type (object_relocations input.live object o))
    → AreMarked (length o.types) (is_live_type input object o) rs
all_marked input object o none fs hs rs at none-is fs-is hs-is rs-is =
    let count = length o.types in
    let functions = function_types input object 0 o.functions in
    let hosts = host_types input object in
    let relocations = object_relocations input.live object o in
    let named = map named_type relocations in
    let none-len : length none ≡ count = ap length none-is ∙ length-replicate count false in
    let fs-len : length fs ≡ count = ap length fs-is ∙ (mark_all_len none functions ∙ none-len) in
    let hs-len : length hs ≡ count = ap length hs-is ∙ (mark_all_len fs hosts ∙ fs-len) in
    record {
      len = ap length rs-is ∙ (mark_all_len hs named ∙ hs-len);
      each = λ k lt.
          let small : k < count = ltb-true k count lt in
          let from : is_marked none k ≡ false =
          ap (λ (marks : List Bool). is_marked marks k) none-is
          ∙ get_or-replicate count k false false small in
          let a : is_marked fs k ≡ is_type_of_function input object o k =
          ap (λ (marks : List Bool). is_marked marks k) fs-is
          ∙ (mark_each none functions k (omega (arith, small, none-len))
          ∙ (ap (λ (b : Bool). b || list_any (is_number k) functions) from
          ∙ functions_any input object k o)) in
          let b : is_marked hs k
          ≡ (is_type_of_function input object o k || list_any (is_type_of_host input k)
          (object_slots object Func o)) =
          ap (λ (marks : List Bool). is_marked marks k) hs-is
          ∙ (mark_each fs hosts k (omega (arith, small, fs-len))
          ∙ (ap (λ (b : Bool). b || list_any (is_number k) hosts) a
          ∙ ap (λ (b : Bool). is_type_of_function input object o k || b)
          (hosts_any input object k o at))) in
          ap (λ (marks : List Bool). is_marked marks k) rs-is
          ∙ (mark_each hs named k (omega (arith, small, hs-len))
          ∙ (ap (λ (b : Bool). b || list_any (is_number k) named) b
          ∙ ap (λ (c : Bool). (is_type_of_function input object o k || list_any
          (is_type_of_host input k) (object_slots object Func o)) || c) (named_any k relocations)));
    }

-- ---- lists that grow

-- what stands in the first list stands at its place in the second
abbrev pub Grows : List FunctionType → List FunctionType → Type 0
Grows before after = (k : ℕ) (ty : FunctionType) → slice_get before k ≡ Some ty
    → slice_get after k ≡ Some ty

one_grows : (types : List FunctionType) (ty : FunctionType) → Grows types (add_type types ty)
one_grows types ty k x here =
    elim (cases_Bool (list_any (same_type ty) types)) [
      | inl there ↦ rw there here
      | inr new ↦ rw new (get_in_front types (ty ∷ []) k x here)
    ]

grows : (types more : List FunctionType) → Grows types (insert_all same_type types more)
grows types [] k x here = here
grows types (ty ∷ more) k x here = grows (add_type types ty) more k x (one_grows types ty k x here)

one_longer : (types : List FunctionType) (ty : FunctionType)
    → length types ≤ length (add_type types ty)
one_longer types ty =
    elim (cases_Bool (list_any (same_type ty) types)) [
      | inl there ↦ rw there (omega arith)
      | inr new ↦ rw new (omega (arith, length-append types (ty ∷ [])))
    ]

longer : (types more : List FunctionType) → length types ≤ length (insert_all same_type types more)
longer types [] = omega arith
longer types (ty ∷ more) = omega (arith, one_longer types ty, longer (add_type types ty) more)

insert_append : (types xs ys : List FunctionType)
    → insert_all same_type types (xs ++ ys)
    ≡ insert_all same_type (insert_all same_type types xs) ys
insert_append types [] ys = refl
insert_append types (x ∷ xs) ys = insert_append (add_type types x) xs ys

-- a list that is full stays full
still_full : (types more all : List FunctionType) (e : LinkError)
    → insert_all same_type types more ≡ all
    → IsFull types e → IsFull all e
still_full types more all OutOfMemory is full = tt
still_full types more all (TooLarge what) is full =
    (full.0, omega (arith, full.1, longer types more, ap length is))
still_full types more all _ is full = full

-- ---- the marked types of an object

present_front : (entry : Option FunctionType) (entries : List (Option FunctionType))
    → present (entry ∷ entries) ≡ present (entry ∷ []) ++ present entries
present_front None entries = refl
present_front (Some ty) entries = refl

merged_front : (types : List FunctionType) (entry : Option FunctionType)
    (entries : List (Option FunctionType))
    → merged types (entry ∷ entries) ≡ merged (merged types (entry ∷ [])) entries
merged_front types entry entries =
    ap (insert_all same_type types) (present_front entry entries)
    ∙ insert_append types (present (entry ∷ [])) (present entries)

index_grows : (before after : List FunctionType) (entry : Option FunctionType) (index : ℕ)
    → Grows before after
    → IsIndexOf before entry index → IsIndexOf after entry index
index_grows before after None index g is = is
index_grows before after (Some ty) index g is = g index ty is

indices_grow : (before after : List FunctionType) (entries : List (Option FunctionType))
    (indices : List ℕ)
    → Grows before after → AreIndicesOf before entries indices → AreIndicesOf after entries indices
indices_grow before after [] [] g are = tt
indices_grow before after [] (i ∷ is) g are = absurd are
indices_grow before after (e ∷ es) [] g are = absurd are
indices_grow before after (e ∷ es) (i ∷ is) g are =
    (index_grows before after e i g are.0, indices_grow before after es is g are.1)

-- entries of which some are merged: what is left, and the indices of all by those of what is left
pub record Merging (before : List FunctionType) (all left : List (Option FunctionType))
    (merger : List FunctionType) (indices : List ℕ) : Type 0 where
  pub types : merged merger left ≡ merged before all
  pub indices_are : (after : List FunctionType) (more : List ℕ) → Grows merger after
      → AreIndicesOf after left more
      → AreIndicesOf after all (indices ++ more)

merging_one : (before : List FunctionType) (all left : List (Option FunctionType))
    (entry : Option FunctionType)
    (old new : List FunctionType) (indices : List ℕ) (index : ℕ) → new ≡ merged old (entry ∷ [])
    → IsIndexOf new entry index
    → Merging before all (entry ∷ left) old indices
    → Merging before all left new (indices ++ index ∷ [])
merging_one before all left entry old new indices index is at h = record {
  types = ap (λ (types : List FunctionType). merged types left) is
      ∙ (sym (merged_front old entry left) ∙ h.types);
  indices_are = λ after more g are.
      let grown : Grows old new =
      subst (λ (types : List FunctionType). Grows old types) (sym is)
      (grows old (present (entry ∷ []))) in
      subst (AreIndicesOf after all) (sym (append_assoc indices (index ∷ []) more))
      (h.indices_are after (index ∷ more) (λ k ty here. g k ty (grown k ty here))
      (index_grows new after entry index g at, are));
}

merging_full : (before : List FunctionType) (all left : List (Option FunctionType))
    (entry : Option FunctionType)
    (old : List FunctionType) (indices : List ℕ) (e : LinkError)
    → Merging before all (entry ∷ left) old indices
    → IsFull (merged old (entry ∷ [])) e → IsFull (merged before all) e
merging_full before all left entry old indices e h full =
    still_full (merged old (entry ∷ [])) (present left)
    (merged before all) e (sym (merged_front old entry left) ∙ h.types) full

merging_done : (before : List FunctionType) (all left : List (Option FunctionType))
    (merger : List FunctionType) (indices : List ℕ)
    → left ≡ [] → Merging before all left merger indices
    → (merger ≡ merged before all) × AreIndicesOf merger all indices
merging_done before all left merger indices none h = (
  sym (ap (merged merger) none) ∙ h.types,
  subst (AreIndicesOf merger all) (append-nil indices)
      (h.indices_are merger [] (λ k ty here. here)
      (subst (λ (es : List (Option FunctionType)). AreIndicesOf merger es []) (sym none) tt)),
)

-- the marked types from a number on, beginning with the first of them
types_split : (passes : ℕ → Bool) (types : List FunctionType) (i : ℕ) (ty : FunctionType)
    → i < length types → ty ≡ get_or types i ty
    → types_if passes i (drop i types)
    ≡ entry_if (passes i) ty ∷ types_if passes (i + 1) (drop (i + 1) types)
types_split passes types i ty lt is = ap (types_if passes i) (drop_here types i ty lt is)

-- types that pass the same tests are the same
types_same : (p q : ℕ → Bool) (k : ℕ) (types : List FunctionType) → ((j : ℕ)
    → j < k + length types → p j ≡ q j)
    → types_if p k types ≡ types_if q k types
types_same p q k [] same = refl
types_same p q k (ty ∷ types) same =
    ap (λ (b : Bool). entry_if b ty ∷ types_if p (k + 1) types) (same k (omega arith))
    ∙ ap (λ (ts : List (Option FunctionType)). entry_if (q k) ty ∷ ts)
    (types_same p q (k + 1) types (λ j lt. same j (omega (arith, lt))))

by_marks : (passes : ℕ → Bool) (types : List FunctionType) (marks : List Bool)
    → AreMarked (length types) passes marks
    → types_if (is_marked marks) 0 types ≡ types_if passes 0 types
by_marks passes types marks h =
    types_same (is_marked marks) passes 0 types (λ j lt. h.each j (lt-ltb j (length types)
    (omega (arith, lt))))

-- the marked ones of these types are the live ones of the object
pub live_ones : (input : Input) (object : ℕ) (o : Object) (types : List FunctionType)
    (marks made : List Bool)
    → types ≡ o.types → marks ≡ made → AreMarked (length o.types) (is_live_type input object o) made
    → types_if (is_marked marks) 0 types ≡ local_types input object o
live_ones input object o types marks made types-are marks-are live =
    ap (λ (ms : List Bool). types_if (is_marked ms) 0 types) marks-are
    ∙ (ap (types_if (is_marked made) 0) types-are
    ∙ by_marks (is_live_type input object o) o.types made live)

-- ---- the types of all objects

-- the indices of the types of an object
abbrev pub AreOf : Input → List FunctionType → ℕ → Object → List ℕ → Type 0
AreOf input types object o indices = AreIndicesOf types (local_types input object o) indices

-- the live types of the objects from a number on
abbrev pub types_behind : Input → ℕ → List FunctionType
types_behind input object = by_object (live_types input) object (drop object input.link.objects)

rows_grow : (input : Input) (before after : List FunctionType) (i : ℕ) (objects : List Object)
    (rows : List (List ℕ))
    → Grows before after → AreRows (AreOf input before) i objects rows
    → AreRows (AreOf input after) i objects rows
rows_grow input before after i [] [] g are = tt
rows_grow input before after i [] (row ∷ rows) g are = absurd are
rows_grow input before after i (o ∷ objects) [] g are = absurd are
rows_grow input before after i (o ∷ objects) (row ∷ rows) g are = (
  indices_grow before after (local_types input i o) row g are.0,
  rows_grow input before after
      (i + 1) objects rows g are.1,
)

-- objects of which some are merged: what is left, and the rows of all by those of what is left
pub record MergingObjects (input : Input) (before : List FunctionType) (i : ℕ)
    (merger : List FunctionType) (rows : List (List ℕ)) : Type 0 where
  pub types : insert_all same_type merger (types_behind input i)
      ≡ insert_all same_type before (by_object (live_types input) 0 input.link.objects)
  pub rows_are : (after : List FunctionType) (more : List (List ℕ)) → Grows merger after
      → AreRows (AreOf input after) i (drop i input.link.objects) more
      → AreRows (AreOf input after) 0 input.link.objects (rows ++ more)

module _ (input : Input) (before : List FunctionType) (i : ℕ) (o : Object)
    (lt : i < length input.link.objects) (is : o ≡ get_or input.link.objects i o) where
  split_objects : drop i input.link.objects ≡ o ∷ drop (i + 1) input.link.objects
  split_objects = drop_here input.link.objects i o lt is

  behind_front : (old : List FunctionType) → insert_all same_type old (types_behind input i)
      ≡ insert_all same_type (merged old (local_types input i o)) (types_behind input (i + 1))
  behind_front old =
      ap (λ (os : List Object). insert_all same_type old (by_object
      (live_types input) i os)) split_objects
      ∙ insert_append old (live_types input i o) (types_behind input (i + 1))

  pub merging_object : (old new : List FunctionType) (rows : List (List ℕ)) (row : List ℕ)
      → new ≡ merged old (local_types input i o)
      → AreIndicesOf new (local_types input i o) row → MergingObjects input before i old rows
      → MergingObjects input before (i + 1) new (rows ++ row ∷ [])
  merging_object old new rows row new-is at h = record {
    types = ap (λ (types : List FunctionType). insert_all same_type types (types_behind input
        (i + 1))) new-is ∙ (sym (behind_front old) ∙ h.types);
    rows_are = λ after more g are.
        let grown : Grows old new =
        subst (λ (types : List FunctionType). Grows old types) (sym new-is)
        (grows old (live_types input i o)) in
        let next : AreRows (AreOf input after) i (o ∷ drop (i + 1) input.link.objects)
        (row ∷ more) =
        (indices_grow new after (local_types input i o) row g at, are) in
        subst (AreRows (AreOf input after) 0 input.link.objects)
        (sym (append_assoc rows (row ∷ []) more))
        (h.rows_are after (row ∷ more) (λ k ty here. g k ty (grown k ty here))
        (subst (λ (os : List Object). AreRows (AreOf input after) i os (row ∷ more))
        (sym split_objects) next));
  }

  pub merging_objects_full : (old : List FunctionType) (rows : List (List ℕ)) (e : LinkError)
      → MergingObjects input before i old rows
      → IsFull (merged old (local_types input i o)) e
      → IsFull (insert_all same_type before (by_object (live_types input) 0 input.link.objects)) e
  merging_objects_full old rows e h full =
      still_full (merged old (local_types input i o)) (types_behind input (i + 1))
      (insert_all same_type before (by_object (live_types input) 0 input.link.objects)) e (sym
      (behind_front old) ∙ h.types) full

pub merging_objects_done : (input : Input) (before : List FunctionType) (i : ℕ)
    (merger : List FunctionType) (rows : List (List ℕ))
    → length input.link.objects ≤ i → MergingObjects input before i merger rows
    → (merger ≡ insert_all same_type before (by_object (live_types input) 0 input.link.objects))
    × AreRows (AreOf input merger) 0 input.link.objects rows
merging_objects_done input before i merger rows le h =
    let os = input.link.objects in
    let none : drop i os ≡ [] = drop_all i os le in (
      sym (ap (λ (xs : List Object). insert_all same_type merger (by_object
          (live_types input) i xs)) none) ∙ h.types,
      subst (AreRows (AreOf input merger) 0 os) (append-nil rows)
          (h.rows_are merger [] (λ k ty here. here)
          (subst (λ (xs : List Object). AreRows (AreOf input merger) i xs []) (sym none) tt)),
    )

-- ---- merging in loops

module _ (passes : ℕ → Bool) (types : List FunctionType) (i : ℕ) (ty : FunctionType)
    (before : List FunctionType) (lt : i < length types) (is : ty ≡ get_or types i ty) where
  split_entries : (merger : List FunctionType) (indices : List ℕ)
      → Merging before (types_if passes 0 types) (types_if passes i (drop i types)) merger indices
      → Merging before (types_if passes 0 types)
      (entry_if (passes i) ty ∷ types_if passes (i + 1) (drop (i + 1) types)) merger indices
  split_entries merger indices h =
      subst (λ (left : List (Option FunctionType)). Merging before
      (types_if passes 0 types) left merger indices) (types_split passes types i ty lt is) h

  pub marked_more : (old new : List FunctionType) (indices : List ℕ) (index : ℕ)
      → new ≡ merged old (entry_if (passes i) ty ∷ [])
      → IsIndexOf new (entry_if (passes i) ty) index
      → Merging before (types_if passes 0 types) (types_if passes i (drop i types)) old indices
      → Merging before (types_if passes 0 types) (types_if passes (i + 1)
      (drop (i + 1) types)) new (indices ++ index ∷ [])
  marked_more old new indices index new-is at h =
      merging_one before (types_if passes 0 types) (types_if passes (i + 1) (drop (i + 1) types))
      (entry_if (passes i) ty) old new indices index
      new-is at (split_entries old indices h)

  pub marked_full : (old : List FunctionType) (indices : List ℕ) (e : LinkError)
      → Merging before (types_if passes 0 types) (types_if passes i (drop i types)) old indices
      → IsFull (merged old (entry_if (passes i) ty ∷ [])) e
      → IsFull (merged before (types_if passes 0 types)) e
  marked_full old indices e h full =
      merging_full before (types_if passes 0 types) (types_if passes (i + 1)
      (drop (i + 1) types)) (entry_if (passes i) ty) old indices e
      (split_entries old indices h) full

  pub listed_full : (merger : List FunctionType) (e : LinkError)
      → insert_all same_type merger (drop i types) ≡ insert_all same_type before types
      → IsFull (add_type merger ty) e → IsFull (insert_all same_type before types) e
  listed_full merger e h full =
      still_full (add_type merger ty) (drop (i + 1) types) (insert_all same_type before types) e
      (sym (ap (insert_all same_type merger) (drop_here types i ty lt is)) ∙ h) full

pub marked_done : (passes : ℕ
    → Bool) (types : List FunctionType) (i : ℕ) (before merger : List FunctionType)
    (indices : List ℕ)
    → length types ≤ i → Merging before (types_if passes 0 types)
    (types_if passes i (drop i types)) merger indices
    → AreIndicesOf merger (types_if passes 0 types) indices
marked_done passes types i before merger indices le h =
    (merging_done before (types_if passes 0 types) (types_if passes i (drop i types)) merger indices
    (ap (types_if passes i) (drop_all i types le)) h).1

-- ---- what the linker makes

made_is_made : (input : Input) (m : WasmLinkerSymbol) (place : ℕ)
    → slice_get (function_space input) place ≡ Some (FunctionOf (Made m)) → is_made input m ≡ true
made_is_made input m place here =
    all_functions input (λ (x : FunctionEntry). x ≡ FunctionOf (Made m) → is_made input m ≡ true) (λ t h is. absurd cc)
    (λ made is. let same : CallCtors ≡ m = cc in subst (λ (n : WasmLinkerSymbol). is_made input n ≡ true) same made)
    (λ made is. let same : InitTls ≡ m = cc in subst (λ (n : WasmLinkerSymbol). is_made input n ≡ true) same made)
    (λ memory is. absurd cc) (λ t h is. absurd cc) (λ i o k at h is. absurd cc)
    (FunctionOf (Made m)) (at_is_in (function_space input) place (FunctionOf (Made m)) here) refl

memory_is_made : (input : Input) (place : ℕ)
    → slice_get (function_space input) place ≡ Some InitMemory → has_init_memory input ≡ true
memory_is_made input place here =
    all_functions input (λ (x : FunctionEntry). x ≡ InitMemory → has_init_memory input ≡ true) (λ t h is. absurd cc)
    (λ made is. absurd cc) (λ made is. absurd cc) (λ memory is. memory) (λ t h is. absurd cc) (λ i o k at h is. absurd cc)
    InitMemory (at_is_in (function_space input) place InitMemory here) refl

-- it has an index exactly where it is made
ctors_exist : (input : Input) (index : Option ℕ) → IsMadeIndex input CallCtors index
    → is_some index ≡ is_made input CallCtors
ctors_exist input None is = sym is
ctors_exist input (Some place) is = sym (made_is_made input CallCtors place is)

tls_exists : (input : Input) (index : Option ℕ) → IsMadeIndex input InitTls index
    → is_some index ≡ is_made input InitTls
tls_exists input None is = sym is
tls_exists input (Some place) is = sym (made_is_made input InitTls place is)

memory_exists : (input : Input) (index : Option ℕ)
    → MatchOption index (has_init_memory input
    ≡ false) (λ place. slice_get (function_space input) place ≡ Some InitMemory)
    → is_some index ≡ has_init_memory input
memory_exists input None is = sym is
memory_exists input (Some place) is = sym (memory_is_made input place is)

pub made_types_are : (input : Input) (ctors tls memory : Option ℕ) (a b c : List FunctionType)
    → IsMadeIndex input CallCtors ctors
    → IsMadeIndex input InitTls tls
    → MatchOption memory (has_init_memory input
    ≡ false) (λ place. slice_get (function_space input) place ≡ Some InitMemory)
    → a ≡ type_where (is_some ctors) [] → b ≡ a ++ type_where (is_some tls) (I32 ∷ [])
    → c ≡ b ++ type_where (is_some memory) []
    → c ≡ made_functions input
made_types_are input ctors tls memory a b c is-ctors is-tls is-memory a-is b-is c-is =
    let first : a ≡ made_type input CallCtors =
    a-is ∙ ap (λ (e : Bool). type_where e []) (ctors_exist input ctors is-ctors) in
    let second : type_where (is_some tls) (I32 ∷ []) ≡ made_type input InitTls =
    ap (λ (e : Bool). type_where e (I32 ∷ [])) (tls_exists input tls is-tls) in
    let third : type_where (is_some memory) [] ≡ init_memory_type input =
    ap (λ (e : Bool). type_where e []) (memory_exists input memory is-memory) in
    c-is ∙ (ap (λ (ts : List FunctionType). ts ++ type_where (is_some memory) [])
    (b-is ∙ (ap (λ (ts : List FunctionType). ts ++ type_where (is_some tls) (I32 ∷ [])) first
    ∙ ap (λ (ts : List FunctionType). made_type input CallCtors ++ ts) second))
    ∙ ap (λ (ts : List FunctionType).
    (made_type input CallCtors ++ made_type input InitTls) ++ ts) third)

-- ---- the types of the output

-- the live types of all objects
abbrev pub objects_types : Input → List FunctionType
objects_types input = by_object (live_types input) 0 input.link.objects

all_types : (input : Input) → output_types input
    ≡ insert_all same_type (insert_all same_type [] (objects_types input)) (made_types input)
all_types input = insert_append [] (objects_types input) (made_types input)

pub output_is : (input : Input) (none first second : List FunctionType) → none ≡ []
    → first ≡ insert_all same_type none (objects_types input)
    → second ≡ insert_all same_type first (made_types input) → second ≡ output_types input
output_is input none first second z a b =
    let first-is : first ≡ insert_all same_type [] (objects_types input) =
    a ∙ ap (λ (ts : List FunctionType). insert_all same_type ts (objects_types input)) z in
    b ∙ (ap (λ (ts : List FunctionType). insert_all same_type ts (made_types input)) first-is
    ∙ sym (all_types input))

pub first_full : (input : Input) (e : LinkError)
    → IsFull (insert_all same_type [] (objects_types input)) e → IsFull (output_types input) e
first_full input e full =
    still_full (insert_all same_type [] (objects_types input)) (made_types input)
    (output_types input) e (sym (all_types input)) full

pub second_full : (input : Input) (first : List FunctionType) (e : LinkError)
    → first ≡ insert_all same_type [] (objects_types input)
    → IsFull (insert_all same_type first (made_types input)) e → IsFull (output_types input) e
second_full input first e is full =
    subst (λ (ts : List FunctionType). IsFull ts e)
    (output_is input [] first (insert_all same_type first (made_types input)) refl is refl) full

pub rows_of_output : (input : Input) (first second : List FunctionType) (rows : List (List ℕ))
    → second ≡ insert_all same_type first (made_types input) → second ≡ output_types input
    → AreRows (AreOf input first) 0 input.link.objects rows
    → AreRows (AreTypeIndices input) 0 input.link.objects rows
rows_of_output input first second rows b is are =
    let all : Grows first (output_types input) =
    subst (λ (ts : List FunctionType). Grows first ts) (sym b ∙ is)
    (grows first (made_types input)) in
    rows_grow input first (output_types input) 0 input.link.objects rows all are

-- ---- the types of what the linker makes, those of stubs last

pub stubs_last : (input : Input) (old second made stubs : List FunctionType)
    → made ≡ made_functions input → stubs ≡ stub_types input
    → second ≡ insert_all same_type old made
    → insert_all same_type second stubs ≡ insert_all same_type old (made_types input)
stubs_last input old second made stubs a b c =
    ap (insert_all same_type second) b
    ∙ (ap (λ (ts : List FunctionType). insert_all same_type ts (stub_types input))
    (c ∙ ap (insert_all same_type old) a)
    ∙ sym (insert_append old (made_functions input) (stub_types input)))

pub made_full : (input : Input) (old made : List FunctionType) (e : LinkError)
    → made ≡ made_functions input → IsFull (insert_all same_type old made) e
    → IsFull (insert_all same_type old (made_types input)) e
made_full input old made e a full =
    still_full (insert_all same_type old (made_functions input)) (stub_types input)
    (insert_all same_type old (made_types input)) e
    (sym (insert_append old (made_functions input) (stub_types input)))
    (subst (λ (ts : List FunctionType). IsFull (insert_all same_type old ts) e) a full)
