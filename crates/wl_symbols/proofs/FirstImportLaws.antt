-- The first of each that are the same: what is among them, and that each stands once.
use Rattle.std.proofs.Common.{◌≡◌, ◌∙◌, ◌⊎◌, ℕ, zero, suc, ◌<◌, ◌&&◌, ◌||◌, Bool, true, false, List, [], ◌∷◌, ◌++◌, length, refl, sym, ap, arith, inl, inr, Option, Some, None, is_some, map, filter, slice_get, Contains, unwrap_or, position, find}
use Rattle.std.proofs.Math.Bool.{or-false, or_assoc}
use Rattle.std.specs.List.{list_any, IsDistinct}
use Rattle.std.specs.Option.{option_map}
use Rattle.std.specs.Str.{bytes_eq}
use Rattle.std.specs.Cmp.{IsEquivalence}
use Rattle.std.proofs.lemmas.Bool.{cases_Bool, and_parts}
use Rattle.std.proofs.lemmas.Cmp.{nat_list_eq_equiv, on_equiv, and_equiv}
use Rattle.std.proofs.lemmas.List.Folds.{list_any-append}
use Rattle.std.proofs.lemmas.Map.Keys.{IsDistinct-push, apart_from_distinct}
use Rattle.std.proofs.lemmas.Option.{slice_get-map, slice_get_within, get_or_from_slice_get}
use Rattle.std.proofs.lemmas.Slice.Eq.{bytes_eq-Decides}
use Rattle.indexmap.specs.IndexSet.{insert_key, insert_all}
use Rattle.wl_linking.specs.Object.{Object}
use Rattle.wl_symbols.specs.ImportSlots.{ImportSlot}
use Rattle.wl_symbols.specs.Left.{HostImport, same_field, same_import, first_like, first_slot, place_of_name, place_of_import, is_stub_name, is_stub, stub_slots, stubs, first_imports}
use Rattle.wl_lists.proofs.Found.{any_of, position_map}
use Rattle.wl_symbols.proofs.ImportPlaceLaws.{any_placed, found_at, find_some}
use Rattle.wl_symbols.proofs.TellingLaws.{stub_by_name}

-- ---- slots that are the same

pub fields_equiv : IsEquivalence same_field
fields_equiv = on_equiv (λ (t : ImportSlot). t.item.name) nat_list_eq_equiv

pub imports_equiv : IsEquivalence same_import
imports_equiv = and_equiv (on_equiv (λ (t : ImportSlot). t.item.origin) nat_list_eq_equiv) (on_equiv (λ (t : ImportSlot). t.item.name) nat_list_eq_equiv)

-- ---- what is among the first ones

module _ {X : Type 0} {E : X → X → Bool} (laws : IsEquivalence E) where
  any_same : (x y : X) → E x y ≡ true → (xs : List X) → list_any (E x) xs ≡ list_any (E y) xs
  any_same x y same [] = refl
  any_same x y same (z ∷ xs) = rw (laws.congr x y z same, any_same x y same xs) refl

  any_key : (x : X) (seen : List X) (y : X) → list_any (E x) (insert_key E seen y) ≡ (list_any (E x) seen || E x y)
  any_key x seen y = elim (cases_Bool (list_any (E y) seen)) [
    | inr absent ↦ rw absent (list_any-append (E x) seen (y ∷ []) ∙ ap (λ b. list_any (E x) seen || b) (or-false (E x y)))
    | inl there ↦ rw there (elim (cases_Bool (E x y)) [
      | inl same ↦ (let among : list_any (E x) seen ≡ true = any_same x y same seen ∙ there in rw among refl)
      | inr other ↦ rw other (sym (or-false (list_any (E x) seen)))
    ])
  ]

  -- one that is the same is among them where one was inserted
  pub any_first : (x : X) (seen xs : List X) → list_any (E x) (insert_all E seen xs) ≡ (list_any (E x) seen || list_any (E x) xs)
  any_first x seen [] = sym (or-false (list_any (E x) seen))
  any_first x seen (y ∷ xs) =
      any_first x (insert_key E seen y) xs ∙ ap (λ b. b || list_any (E x) xs) (any_key x seen y)
      ∙ or_assoc (list_any (E x) seen) (E x y) (list_any (E x) xs)

  distinct_first : (seen xs : List X) → IsDistinct E seen → IsDistinct E (insert_all E seen xs)
  distinct_first seen [] d = d
  distinct_first seen (y ∷ xs) d = elim (cases_Bool (list_any (E y) seen)) [
    | inl there ↦ rw there (distinct_first seen xs d)
    | inr absent ↦ rw absent (distinct_first (seen ++ y ∷ []) xs (IsDistinct-push laws seen y d absent))
  ]

  none_distinct : IsDistinct E []
  unfolding IsDistinct
  none_distinct = tt

  ordered : (i k : ℕ) → (i < k) ⊎ ((i ≡ k) ⊎ (k < i))
  ordered zero zero = inr (inl refl)
  ordered zero (suc k) = inl (omega arith)
  ordered (suc i) zero = inr (inr (omega arith))
  ordered (suc i) (suc k) = elim (ordered i k) [
    | inl below ↦ inl (omega (arith, below))
    | inr rest ↦ elim rest [ inl same ↦ inr (inl (ap suc same)) | inr above ↦ inr (inr (omega (arith, above))) ]
  ]

  apart_at : (ks : List X) (i k : ℕ) (a b : X) → IsDistinct E ks → i < k → slice_get ks i ≡ Some a → slice_get ks k ≡ Some b → E a b ≡ false
  apart_at ks i k a b d below at_i at_k =
      let inside : k < length ks = slice_get_within ks k b at_k in
      let apart = apart_from_distinct E ks i k a d below inside in
      rw (get_or_from_slice_get ks i a a at_i, get_or_from_slice_get ks k b a at_k) at apart

  -- two places with the same are one
  pub first_once : (xs : List X) (i k : ℕ) (a b : X) → slice_get (insert_all E [] xs) i ≡ Some a → slice_get (insert_all E [] xs) k ≡ Some b → E a b ≡ true → i ≡ k
  first_once xs i k a b at_i at_k same =
      let d : IsDistinct E (insert_all E [] xs) = distinct_first [] xs none_distinct in
      elim (ordered i k) [
        | inl below ↦ absurd (let apart : E a b ≡ false = apart_at (insert_all E [] xs) i k a b d below at_i at_k in cc)
        | inr rest ↦ elim rest [
          | inl is ↦ is
          | inr above ↦ absurd (let apart : E b a ≡ false = apart_at (insert_all E [] xs) k i b a d above at_k at_i in
              let back : E b a ≡ true = laws.symm b a ∙ same in cc)
        ]
      ]

-- ---- found by a look-up

unwrapped : {X : Type 0} (o : Option X) (d : X) → is_some o ≡ true → o ≡ Some (unwrap_or o d)
unwrapped None d e = absurd cc
unwrapped (Some x) d e = refl

-- at the place of the first that is the same stands that one
pub found_like : (same : ImportSlot → ImportSlot → Bool) (test : HostImport → Bool) (slots : List ImportSlot) (t : ImportSlot) (p : ℕ)
    → ((s : ImportSlot) → test (first_slot s) ≡ same t s)
    → position test (map first_slot slots) ≡ Some p → slice_get (map first_slot slots) p ≡ Some (first_slot (first_like same slots t))
found_like same test slots t p agree e =
    let at : position (λ s. test (first_slot s)) slots ≡ Some p = sym (position_map first_slot test slots) ∙ e in
    let alike : (λ s. test (first_slot s)) ≡ same t = λ i s. agree s i in
    let there : position (same t) slots ≡ Some p = ap (λ f. position f slots) (sym alike) ∙ at in
    slice_get-map first_slot slots p ∙ ap (option_map first_slot) (found_at (same t) p slots there ∙ unwrapped (find (same t) slots) t (find_some (same t) p slots there))

-- ---- stubs

any_in : {X : Type 0} (test : X → Bool) (xs : List X) → list_any test xs ≡ true → (x : X) × Contains xs x × (test x ≡ true)
any_in test [] e = absurd cc
any_in test (x ∷ xs) e = elim (cases_Bool (test x)) [
  | inl so ↦ (x, (zero, omega arith, refl), so)
  | inr not_so ↦ (let r = any_in test xs (rw not_so at e) in (r.0, (suc r.1.0, omega (arith, r.1.1), r.1.2), r.2))
]

any_filter : {X : Type 0} (p q : X → Bool) (xs : List X) → list_any q (filter p xs) ≡ list_any (λ x. p x && q x) xs
any_filter p q [] = refl
any_filter p q (x ∷ xs) = elim (cases_Bool (p x)) [
  | inl so ↦ rw so (ap (λ b. q x || b) (any_filter p q xs))
  | inr not_so ↦ rw not_so (any_filter p q xs)
]

some_place : (o : Option ℕ) → is_some o ≡ true → (p : ℕ) × (o ≡ Some p)
some_place None e = absurd cc
some_place (Some p) e = (p, refl)

-- there is a place in the list of first slots where one is the same
place_there : (same : ImportSlot → ImportSlot → Bool) (test : HostImport → Bool) (slots : List ImportSlot) (t : ImportSlot)
    → ((s : ImportSlot) → test (first_slot s) ≡ same t s) → is_some (position test (map first_slot slots)) ≡ list_any (same t) slots
place_there same test slots t agree =
    let alike : (λ s. test (first_slot s)) ≡ same t = λ i s. agree s i in
    ap is_some (position_map first_slot test slots ∙ ap (λ f. position f slots) alike) ∙ sym (any_placed (same t) slots)

-- a slot of the list is a stub's where one of its field name is
stub_among : (objects : List Object) (slots : List ImportSlot) (t : ImportSlot) → Contains slots t
    → list_any (λ s. is_stub objects slots s && same_field t s) slots ≡ is_stub objects slots t
stub_among objects slots t listed = elim (cases_Bool (is_stub objects slots t)) [
  | inl so ↦ (let both : (is_stub objects slots t && same_field t t) ≡ true = rw so (fields_equiv.refl t) in
      any_of (λ s. is_stub objects slots s && same_field t s) slots t listed both ∙ sym so)
  | inr not_so ↦ elim (cases_Bool (list_any (λ s. is_stub objects slots s && same_field t s) slots)) [
    | inr none ↦ none ∙ sym not_so
    | inl any ↦ absurd
        (let found = any_in (λ s. is_stub objects slots s && same_field t s) slots any in
        let both = and_parts (is_stub objects slots found.0) (same_field t found.0) found.2 in
        let named : is_stub_name objects slots (found.0).item.name ≡ true = stub_by_name objects slots found.0 found.1 ∙ both.0 in
        let alike : t.item.name ≡ (found.0).item.name = (bytes_eq-Decides t.item.name (found.0).item.name).0 both.1 in
        let here : is_stub objects slots t ≡ true = sym (stub_by_name objects slots t listed) ∙ ap (is_stub_name objects slots) alike ∙ named in
        cc)
  ]
]

-- a slot of the list is a stub's exactly where its field name has a place among the stubs
pub stub_found : (objects : List Object) (slots : List ImportSlot) (t : ImportSlot) → Contains slots t
    → is_stub objects slots t ≡ is_some (place_of_name t.item.name (map first_slot (stubs objects slots)))
stub_found objects slots t listed = sym
    (place_there same_field (λ (h : HostImport). bytes_eq t.item.name h.name) (stubs objects slots) t (λ s. refl)
    ∙ any_first fields_equiv t [] (stub_slots objects slots)
    ∙ any_filter (is_stub objects slots) (same_field t) slots
    ∙ stub_among objects slots t listed)

-- and there stands the first one of its field name
pub stub_there : (objects : List Object) (slots : List ImportSlot) (t : ImportSlot) (p : ℕ)
    → place_of_name t.item.name (map first_slot (stubs objects slots)) ≡ Some p
    → slice_get (map first_slot (stubs objects slots)) p ≡ Some (first_slot (first_like same_field (stubs objects slots) t))
stub_there objects slots t p e = found_like same_field (λ (h : HostImport). bytes_eq t.item.name h.name) (stubs objects slots) t p (λ s. refl) e

-- no two stubs have one field name
pub stubs_once : (objects : List Object) (slots : List ImportSlot) (i k : ℕ) (a b : ImportSlot)
    → slice_get (stubs objects slots) i ≡ Some a → slice_get (stubs objects slots) k ≡ Some b → a.item.name ≡ b.item.name → i ≡ k
stubs_once objects slots i k a b at_i at_k same =
    first_once fields_equiv (stub_slots objects slots) i k a b at_i at_k ((bytes_eq-Decides a.item.name b.item.name).1 same)

-- ---- host imports

-- a slot of the list has a place among the imports, and there stands the first of its module and field name
pub import_found : (slots : List ImportSlot) (t : ImportSlot) → Contains slots t
    → (p : ℕ) × (place_of_import t.item.origin t.item.name (map first_slot (first_imports slots)) ≡ Some p)
    × (slice_get (map first_slot (first_imports slots)) p ≡ Some (first_slot (first_like same_import (first_imports slots) t)))
import_found slots t listed =
    let test : HostImport → Bool = λ (h : HostImport). bytes_eq t.item.origin h.module_ && bytes_eq t.item.name h.name in
    let there : is_some (place_of_import t.item.origin t.item.name (map first_slot (first_imports slots))) ≡ true =
    place_there same_import test (first_imports slots) t (λ s. refl)
    ∙ any_first imports_equiv t [] slots ∙ any_of (same_import t) slots t listed (imports_equiv.refl t) in
    let at = some_place (place_of_import t.item.origin t.item.name (map first_slot (first_imports slots))) there in
    (at.0, at.1, found_like same_import test (first_imports slots) t at.0 (λ s. refl) at.1)

-- no two imports have one module and one field name
pub imports_once : (slots : List ImportSlot) (i k : ℕ) (a b : ImportSlot)
    → slice_get (first_imports slots) i ≡ Some a → slice_get (first_imports slots) k ≡ Some b
    → a.item.origin ≡ b.item.origin → a.item.name ≡ b.item.name → i ≡ k
imports_once slots i k a b at_i at_k from same =
    let left : bytes_eq a.item.origin b.item.origin ≡ true = (bytes_eq-Decides a.item.origin b.item.origin).1 from in
    let right : bytes_eq a.item.name b.item.name ≡ true = (bytes_eq-Decides a.item.name b.item.name).1 same in
    let both : same_import a b ≡ true = rw (left, right) refl in
    first_once imports_equiv slots i k a b at_i at_k both
