-- The stubs and the host imports that slots are to which names bind nothing.
use Rattle.std.proofs.Common.{◌≡◌, ◌∙◌, ℕ, suc, ◌+◌, Bool, true, false, not, ◌&&◌, ◌||◌, List, [], ◌∷◌, ◌++◌, length, map, find, position, refl, sym, ap, arith, inl, inr, Some, None, option_map, slice_get, Contains, bytes_eq, ◌≤◌, lt-ltb, le-ltb, length-append, append-nil, Option}
use Rattle.std.specs.List.{list_any, position_or_len}
use Rattle.std.specs.Option.{option_and_then, option_map_or, unwrap_or, is_none}
use Rattle.std.proofs.lemmas.Bool.{cases_Bool, and_parts, cases_lt}
use Rattle.std.proofs.lemmas.Option.{slice_get_past}
use Rattle.std.proofs.lemmas.Slice.Eq.{bytes_eq-Decides}
use Rattle.indexmap.specs.IndexSet.{insert_key, insert_all}
use Rattle.wl_linking.specs.Object.{Object}
use Rattle.wl_custom.specs.declared.symbols.WasmSymbolKind.TheVariants.{Func}
use Rattle.wl_symbols.specs.ImportSlots.{ImportSlot}
use Rattle.wl_symbols.specs.SlotTargets.{by_definition, by_symbol_name, by_field_name, slot_target}
use Rattle.wl_symbols.specs.declared.targets.SlotTarget.{SlotTarget}
use Rattle.wl_symbols.specs.Left.{HostImport, same_field, same_import, is_weak_slot, is_stub_name, is_stub, stub_slots, stubs, first_imports, first_slot}
use Rattle.wl_symbols.specs.Input.{Input}
use Rattle.wl_symbols.specs.KeptSlots.{slots_from, is_kept_slot, kept_slots}
use Rattle.wl_bind.specs.FunctionBinding.{left_functions, link_stubs, host_functions, named_function, by_stub, by_host, binds_function}
use Rattle.wl_bind.specs.BindingSteps.{stub_named, host_target, left_target}
use Rattle.wl_lists.proofs.Found.{cases_option, any_last}
use Rattle.wl_lists.proofs.In.{Contains-filter, IsIn, list_in}
use Rattle.wl_bind.proofs.ListLaws.{none_found, all_in}
use Rattle.wl_lists.proofs.Firsts.{any_kept, in_firsts}
use Rattle.wl_bind.proofs.FindLaws.{find_some}
use Rattle.wl_bind.proofs.OnceParts.{passes}
use Rattle.wl_bind.specs.declared.binding.FunctionTarget.{FunctionTarget}
use Rattle.wl_bind.specs.declared.binding.FunctionTarget.TheVariants.{Host, Stub}

-- ---- places

at_first : {X : Type 0} (test : X → Bool) (xs more : List X) → slice_get xs (position_or_len test (xs ++ more)) ≡ find test xs
at_first test [] more = refl
at_first test (x ∷ xs) more = elim (cases_Bool (test x)) [
  | inl t ↦ rw t refl
  | inr f ↦
      let n = position_or_len test (xs ++ more) in
      let next : 1 + n ≡ suc n = omega arith in
      rw f (ap (slice_get (x ∷ xs)) next ∙ at_first test xs more)
]

-- what stands at the place of the first that passes, in a list that goes on
pub at_position : {X : Type 0} (test : X → Bool) (xs more : List X) → option_and_then (slice_get xs) (position test (xs ++ more)) ≡ find test xs
at_position test xs more = elim (cases_lt (position_or_len test (xs ++ more)) (length (xs ++ more))) [
  | inl less ↦ rw (lt-ltb (position_or_len test (xs ++ more)) (length (xs ++ more)) less) (at_first test xs more)
  | inr most ↦
      let len = length-append xs more in
      let le : length xs ≤ position_or_len test (xs ++ more) = omega (arith, most, len) in
      rw (le-ltb (position_or_len test (xs ++ more)) (length (xs ++ more)) most) (sym (slice_get_past xs (position_or_len test (xs ++ more)) le) ∙ at_first test xs more)
]

-- what stands at the first place is the first element
pub place_gives : {X : Type 0} (test : X → Bool) (xs : List X) → option_and_then (slice_get xs) (position test xs) ≡ find test xs
place_gives {X} test xs =
    ap (λ (ys : List X). option_and_then (slice_get xs) (position test ys)) (sym (append-nil xs)) ∙ at_position test xs []

pub no_place : {X : Type 0} (test : X → Bool) (xs : List X) → position test xs ≡ None → find test xs ≡ None
no_place test xs none = sym (place_gives test xs) ∙ rw none refl

pub some_place : {X : Type 0} (test : X → Bool) (xs : List X) (p : ℕ) → position test xs ≡ Some p → slice_get xs p ≡ find test xs
some_place test xs p some = (let e = place_gives test xs in rw some at e)

-- the first of a list that was made of another
pub find_mapped : {X Y : Type 0} (f : X → Y) (test : Y → Bool) (xs : List X) → find test (map f xs) ≡ option_map f (find (λ x. test (f x)) xs)
find_mapped f test [] = refl
find_mapped f test (x ∷ xs) = elim (cases_Bool (test (f x))) [ inl y ↦ rw y refl | inr n ↦ rw n (find_mapped f test xs) ]

-- ---- lists without repeats

own_key : {X : Type 0} (same : X → X → Bool) (keys : List X) (x : X) → same x x ≡ true → list_any (same x) (insert_key same keys x) ≡ true
own_key same keys x itself = elim (cases_Bool (list_any (same x) keys)) [
  | inl y ↦ rw y y
  | inr n ↦ rw n (any_last (same x) keys x itself)
]

-- what is listed is the same as one of those that are inserted
pub any_listed : {X : Type 0} (same : X → X → Bool) (keys xs : List X) (x : X) → same x x ≡ true → IsIn xs x
    → list_any (same x) (insert_all same keys xs) ≡ true
any_listed same keys [] x itself h = absurd h
any_listed same keys (y ∷ xs) x itself h = elim h [
  | inl here ↦ any_kept (same x) same (insert_key same keys y) xs (rw here (own_key same keys x itself))
  | inr later ↦ any_listed same (insert_key same keys y) xs x itself later
]

-- ---- stubs

pub itself : (t : ImportSlot) → same_field t t ≡ true
itself t = (bytes_eq-Decides t.item.name t.item.name).1 refl

-- one of the slots of a name that is a stub's is such a one
weak_of : (objects : List Object) (slots : List ImportSlot) (t : ImportSlot) → Contains slots t → is_stub_name objects slots t.item.name ≡ true → is_weak_slot objects t ≡ true
weak_of objects slots t listed name =
    let test : ImportSlot → Bool = λ (s : ImportSlot). not (bytes_eq t.item.name s.item.name) || is_weak_slot objects s in
    let so : (not (bytes_eq t.item.name t.item.name) || is_weak_slot objects t) ≡ true = all_in test slots t name (list_in slots t listed) in
    rw (itself t) at so

-- what is found among the stubs is one, and has the slot's name
pub found_stub : (objects : List Object) (slots : List ImportSlot) (t s : ImportSlot) → find (same_field t) (stubs objects slots) ≡ Some s
    → IsIn (stub_slots objects slots) s × (t.item.name ≡ s.item.name)
found_stub objects slots t s is =
    let found = find_some (same_field t) (stubs objects slots) s is in
    (in_firsts same_field (stub_slots objects slots) s (list_in (stubs objects slots) s found.0), (bytes_eq-Decides t.item.name s.item.name).0 found.1)

-- so the slot is a stub's
pub stub_found : (objects : List Object) (slots : List ImportSlot) (t s : ImportSlot) → Contains slots t → find (same_field t) (stubs objects slots) ≡ Some s → is_stub objects slots t ≡ true
stub_found objects slots t s listed is =
    let f = found_stub objects slots t s is in
    let so : is_stub objects slots s ≡ true = passes (is_stub objects slots) slots s f.0 in
    let name : is_stub_name objects slots t.item.name ≡ true =
    ap (is_stub_name objects slots) f.1 ∙ (and_parts (is_weak_slot objects s) (is_stub_name objects slots s.item.name) so).1 in
    rw (weak_of objects slots t listed name, name) refl

-- a slot of a stub is found among them
stub_listed : (objects : List Object) (slots : List ImportSlot) (t : ImportSlot) → Contains slots t → is_stub objects slots t ≡ true → list_any (same_field t) (stubs objects slots) ≡ true
stub_listed objects slots t listed so =
    let kept = Contains-filter (is_stub objects slots) slots t listed so in
    any_listed same_field [] (stub_slots objects slots) t (itself t) (list_in (stub_slots objects slots) t kept)

pub no_stub : (objects : List Object) (slots : List ImportSlot) (t : ImportSlot) → Contains slots t → find (same_field t) (stubs objects slots) ≡ None → is_stub objects slots t ≡ false
no_stub objects slots t listed none = elim (cases_Bool (is_stub objects slots t)) [
  | inr n ↦ n
  | inl y ↦ absurd (let both : true ≡ false = sym (stub_listed objects slots t listed y) ∙ none_found (same_field t) (stubs objects slots) none in cc)
]

-- ---- rules

-- what the slot is, where names bind nothing to it
target_left : (input : Input) (t : ImportSlot) → Contains (left_functions input) t
    → left_target (map first_slot (link_stubs input)) (map first_slot (first_imports (host_functions input))) t ≡ unwrap_or (by_stub input t) (by_host input t)
target_left input t listed = elim (cases_option (find (same_field t) (link_stubs input))) [
  | inr s ↦
      (let so : is_stub input.link.objects (left_functions input) t ≡ true = stub_found input.link.objects (left_functions input) t s.0 listed s.1 in
      rw (find_mapped first_slot (λ (h : HostImport). bytes_eq t.item.name h.name) (link_stubs input), s.1, so) refl)
  | inl none ↦
      (let so : is_stub input.link.objects (left_functions input) t ≡ false = no_stub input.link.objects (left_functions input) t listed none in
      let stub : stub_named t.item.name (map first_slot (link_stubs input)) ≡ None =
      find_mapped first_slot (λ (h : HostImport). bytes_eq t.item.name h.name) (link_stubs input) ∙ rw none refl in
      rw (stub, so) (host_is input t))
]
  where
    host_is : (input : Input) (t : ImportSlot) → host_target (map first_slot (first_imports (host_functions input))) t ≡ by_host input t
    host_is input t =
        let hosts : List ImportSlot = first_imports (host_functions input) in
        let e = find_mapped first_slot (λ (h : HostImport). bytes_eq t.item.origin h.module_ && bytes_eq t.item.name h.name) hosts in
        rw e (elim (cases_option (find (same_import t) hosts)) [ inl none ↦ rw none refl | inr s ↦ rw s.1 refl ])

-- the rules after one another
pub rules_join : (input : Input) (t : ImportSlot) → binds_function input t ≡ option_map_or named_function (slot_target input.link t) (unwrap_or (by_stub input t) (by_host input t))
rules_join input t = elim (cases_option (by_definition input.link t)) [
  | inr d ↦ rw d.1 refl
  | inl not_defined ↦ elim (cases_option (by_symbol_name input.link t)) [
    | inr m ↦ rw (not_defined, m.1) refl
    | inl not_made ↦ elim (cases_option (by_field_name input.link t)) [
      | inr f ↦ rw (not_defined, not_made, f.1) refl
      | inl nothing ↦ rw (not_defined, not_made, nothing) refl
    ]
  ]
]

-- names leave the slot: it is a stub, or else the host's
pub left_bound : (input : Input) (t : ImportSlot) → slot_target input.link t ≡ None
    → binds_function input t ≡ unwrap_or (by_stub input t) (by_host input t)
left_bound input t none =
    rules_join input t
    ∙ ap (λ (o : Option SlotTarget). option_map_or named_function o (unwrap_or (by_stub input t) (by_host input t))) none

pub stub_bound : (input : Input) (t s : ImportSlot) → slot_target input.link t ≡ None
    → is_stub input.link.objects (left_functions input) t ≡ true → find (same_field t) (link_stubs input) ≡ Some s
    → binds_function input t ≡ Stub s.object s.number
stub_bound input t s none so is =
    let stub : by_stub input t ≡ Some (Stub s.object s.number) = rw (so, is) refl in
    left_bound input t none ∙ ap (λ (o : Option FunctionTarget). unwrap_or o (by_host input t)) stub

pub host_bound : (input : Input) (t s : ImportSlot) → slot_target input.link t ≡ None
    → is_stub input.link.objects (left_functions input) t ≡ false → find (same_import t) (first_imports (host_functions input)) ≡ Some s
    → binds_function input t ≡ Host s.object s.number
host_bound input t s none not_so is =
    let stub : by_stub input t ≡ None = rw not_so refl in
    let host : by_host input t ≡ Host s.object s.number = rw is refl in
    left_bound input t none ∙ (ap (λ (o : Option FunctionTarget). unwrap_or o (by_host input t)) stub ∙ host)

-- names bind the slot
pub named_binds : (input : Input) (t : ImportSlot) (target : SlotTarget) → slot_target input.link t ≡ Some target → binds_function input t ≡ named_function target
named_binds input t target is = rules_join input t ∙ rw is refl

-- they leave it
pub left_binds : (input : Input) (t : ImportSlot) → Contains (slots_from Func 0 input.link.objects) t → is_kept_slot input t ≡ true → slot_target input.link t ≡ None
    → binds_function input t ≡ left_target (map first_slot (link_stubs input)) (map first_slot (first_imports (host_functions input))) t
left_binds input t listed kept none =
    let among : Contains (kept_slots input Func) t = Contains-filter (is_kept_slot input) (slots_from Func 0 input.link.objects) t listed kept in
    let no_name : is_none (slot_target input.link t) ≡ true = rw none refl in
    let left : Contains (left_functions input) t = Contains-filter (λ (s : ImportSlot). is_none (slot_target input.link s)) (kept_slots input Func) t among no_name in
    let e : binds_function input t ≡ unwrap_or (by_stub input t) (by_host input t) = left_bound input t none in
    e ∙ sym (target_left input t left)
