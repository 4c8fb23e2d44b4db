-- The first of each that are the same stands once.
use Rattle.std.proofs.Common.{◌≡◌, ◌∙◌, ◌⊎◌, ℕ, zero, suc, ◌<◌, Bool, true, false, List, [], ◌∷◌, ◌++◌, length, refl, ap, arith, inl, inr, Some, slice_get}
use Rattle.std.specs.List.{list_any, IsDistinct}
use Rattle.std.specs.Cmp.{IsEquivalence}
use Rattle.std.proofs.lemmas.Bool.{cases_Bool}
use Rattle.std.proofs.lemmas.Map.Keys.{IsDistinct-push, apart_from_distinct}
use Rattle.std.proofs.lemmas.Option.{slice_get_within, get_or_from_slice_get}
use Rattle.indexmap.specs.IndexSet.{insert_all}
use Rattle.wl_module.specs.Types.{FunctionType, same_type}
use Rattle.wl_module.specs.SameType.{types_equiv}
use Rattle.wl_types.specs.Types.{output_list}

module _ {X : Type 0} {E : X → X → Bool} (laws : IsEquivalence E) where
  distinct_first : (seen xs : List X) → IsDistinct E seen → IsDistinct E (insert_all E seen xs)
  distinct_first seen [] d = d
  distinct_first seen (y ∷ xs) d = elim (cases_Bool (list_any (E y) seen)) [
    | inl there ↦ rw there (distinct_first seen xs d)
    | inr absent ↦ rw absent (distinct_first (seen ++ y ∷ []) xs (IsDistinct-push laws seen y d absent))
  ]

  none_distinct : IsDistinct E []
  unfolding IsDistinct
  none_distinct = tt

  ordered : (i k : ℕ) → (i < k) ⊎ ((i ≡ k) ⊎ (k < i))
  ordered zero zero = inr (inl refl)
  ordered zero (suc k) = inl (omega arith)
  ordered (suc i) zero = inr (inr (omega arith))
  ordered (suc i) (suc k) = elim (ordered i k) [
    | inl below ↦ inl (omega (arith, below))
    | inr rest ↦ elim rest [ inl same ↦ inr (inl (ap suc same)) | inr above ↦ inr (inr (omega (arith, above))) ]
  ]

  apart_at : (ks : List X) (i k : ℕ) (a b : X) → IsDistinct E ks → i < k → slice_get ks i ≡ Some a → slice_get ks k ≡ Some b → E a b ≡ false
  apart_at ks i k a b d below at_i at_k =
      let inside : k < length ks = slice_get_within ks k b at_k in
      let apart = apart_from_distinct E ks i k a d below inside in
      rw (get_or_from_slice_get ks i a a at_i, get_or_from_slice_get ks k b a at_k) at apart

  -- two places with the same are one
  pub first_once : (xs : List X) (i k : ℕ) (a b : X) → slice_get (insert_all E [] xs) i ≡ Some a → slice_get (insert_all E [] xs) k ≡ Some b → E a b ≡ true → i ≡ k
  first_once xs i k a b at_i at_k same =
      let d : IsDistinct E (insert_all E [] xs) = distinct_first [] xs none_distinct in
      elim (ordered i k) [
        | inl below ↦ absurd (let apart : E a b ≡ false = apart_at (insert_all E [] xs) i k a b d below at_i at_k in cc)
        | inr rest ↦ elim rest [
          | inl is ↦ is
          | inr above ↦ absurd (let apart : E b a ≡ false = apart_at (insert_all E [] xs) k i b a d above at_k at_i in
              let back : E b a ≡ true = laws.symm b a ∙ same in cc)
        ]
      ]

pub types_once : (types : List FunctionType) (i k : ℕ) (a b : FunctionType) → slice_get (output_list types) i ≡ Some a → slice_get (output_list types) k ≡ Some b
    → same_type a b ≡ true → i ≡ k
types_once types i k a b at_i at_k same = first_once types_equiv types i k a b at_i at_k same
