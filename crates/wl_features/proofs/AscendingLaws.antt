-- Lists in strict order.
use Rattle.std.proofs.Common.{◌≡◌, ◌⊎◌, ◌<◌, ◌≤◌, ℕ, Bool, zero, suc, List, [], ◌∷◌, map, Contains, Some, slice_get, Ordering, Less, Greater, refl, sym, ap, ◌∙◌, inl, inr, arith}
use Rattle.std.specs.Cmp.{IsTotalOrder}
use Rattle.std.specs.List.{AllByRecursion, dedup, dedup_from}
use Rattle.std.specs.List.Sorted.{IsStrictlySortedBy}
use Rattle.std.specs.Ordering.{ordering_reverse, on}
use Rattle.std.proofs.lemmas.Bool.{cases_Bool}
use Rattle.std.proofs.lemmas.Cmp.{tied_itself}
use Rattle.std.proofs.Math.Nat.{eq-or-lt_of_le}
use Rattle.std.proofs.lemmas.Option.{slice_get-get_or, slice_get_within, get_or_from_slice_get}
use Rattle.std.proofs.lemmas.List.Elements.{All-from_recursion, All-contains}

-- ---- elements

module _ {K : Type 0} where
  pub contains_head : (x : K) (xs : List K) → Contains (x ∷ xs) x
  contains_head x xs = (0, omega arith, refl)

  pub contains_behind : (x : K) (xs : List K) (z : K) → Contains xs z → Contains (x ∷ xs) z
  contains_behind x xs z (k, within, is) = (suc k, omega (arith, within), is)

  pub contains_cases : (x : K) (xs : List K) (z : K) → Contains (x ∷ xs) z → (x ≡ z) ⊎ Contains xs z
  contains_cases x xs z (zero, within, is) = inl is
  contains_cases x xs z (suc k, within, is) = inr (k, omega (arith, within), is)

  pub contains_at : (xs : List K) (i : ℕ) (x : K) → slice_get xs i ≡ Some x → Contains xs x
  contains_at xs i x at = (i, slice_get_within xs i x at, get_or_from_slice_get xs i x x at)

  pub place_of : (xs : List K) (x : K) → Contains xs x → (i : ℕ) × (slice_get xs i ≡ Some x)
  place_of xs x (i, within, is) = (i, slice_get-get_or xs i x within ∙ ap (λ (y : K). Some y) is)

  pub contains_none : (z : K) → Contains [] z → ⊥
  contains_none z (k, within, is) = omega (arith, within)

-- ---- order

module _ {K : Type 0} {R : K → K → Ordering} (o : IsTotalOrder R) where
  not_itself : (x : K) → R x x ≡ Less → ⊥
  not_itself x less = let tied = tied_itself o x in cc

  not_both : (x y : K) → R x y ≡ Less → R y x ≡ Less → ⊥
  not_both x y less back = let e : R x y ≡ Greater = o.antisymm x y ∙ ap ordering_reverse back in cc

  behind_head : (x : K) (xs : List K) (z : K) → IsStrictlySortedBy R (x ∷ xs) → Contains xs z
      → R x z ≡ Less
  unfolding IsStrictlySortedBy
  behind_head x xs z up at =
      All-contains (λ y. R x y ≡ Less) xs z (All-from_recursion (λ y. R x y ≡ Less) xs up.0) at

  one_head : (x y : K) (xs ys : List K) → IsStrictlySortedBy R (x ∷ xs)
      → IsStrictlySortedBy R (y ∷ ys)
      → Contains (y ∷ ys) x → Contains (x ∷ xs) y → x ≡ y
  one_head x y xs ys up uq at back = elim (contains_cases y ys x at) [
    | inl same ↦ sym same
    | inr behind ↦ elim (contains_cases x xs y back) [
      | inl same ↦ same
      | inr other ↦
          absurd (not_both x y (behind_head x xs y up other) (behind_head y ys x uq behind))
    ]
  ]

  in_tail : (x y : K) (xs ys : List K) → IsStrictlySortedBy R (x ∷ xs) → x ≡ y
      → ((z : K) → Contains (x ∷ xs) z → Contains (y ∷ ys) z) → (z : K) → Contains xs z
      → Contains ys z
  in_tail x y xs ys up same each z at =
      let there = each z (contains_behind x xs z at) in
      elim (contains_cases y ys z there) [
        | inl head ↦ (let here : z ≡ x = sym (same ∙ head) in
            absurd (not_itself x (rw here at (behind_head x xs z up at))))
        | inr behind ↦ behind
      ]

  -- what stands earlier in the list comes first in the order
  pub in_order : (xs : List K) (i j : ℕ) (x y : K) → IsStrictlySortedBy R xs → i < j
      → slice_get xs i ≡ Some x → slice_get xs j ≡ Some y → R x y ≡ Less
  unfolding IsStrictlySortedBy
  in_order [] i j x y up lt at under = absurd cc
  in_order (z ∷ zs) i zero x y up lt at under = absurd (omega (arith, lt))
  in_order (z ∷ zs) zero (suc j) x y up lt at under =
      let same : z ≡ x = cc in
      rw same at (behind_head z zs y up (contains_at zs j y under))
  in_order (z ∷ zs) (suc i) (suc j) x y up lt at under =
      in_order zs i j x y up.1 (omega (arith, lt)) at under

  -- none comes before itself, nor before one that stands earlier in the list
  pub not_less : (xs : List K) (i j : ℕ) (x y : K) → IsStrictlySortedBy R xs → i ≤ j
      → slice_get xs i ≡ Some x → slice_get xs j ≡ Some y → R y x ≡ Less → ⊥
  not_less xs i j x y up le at under less = elim (eq-or-lt_of_le le) [
    | inl same ↦ (let one : x ≡ y = (let e : slice_get xs j ≡ Some x = rw same at at in cc) in
        not_itself x (rw (sym one) at less))
    | inr lt ↦ not_both y x less (in_order xs i j x y up lt at under)
  ]

  -- two that have the same elements are one
  pub one_ascending : (xs ys : List K) → IsStrictlySortedBy R xs → IsStrictlySortedBy R ys
      → ((z : K) → Contains xs z → Contains ys z) → ((z : K) → Contains ys z → Contains xs z)
      → xs ≡ ys
  unfolding IsStrictlySortedBy
  one_ascending [] [] up uq each back = refl
  one_ascending [] (y ∷ ys) up uq each back = absurd (contains_none y (back y (contains_head y ys)))
  one_ascending (x ∷ xs) [] up uq each back = absurd (contains_none x (each x (contains_head x xs)))
  one_ascending (x ∷ xs) (y ∷ ys) up uq each back =
      let there = each x (contains_head x xs) in
      let head = one_head x y xs ys up uq there (back y (contains_head y ys)) in
      let there = in_tail x y xs ys up head each in
      let tail = one_ascending xs ys up.1 uq.1 there (in_tail y x ys xs uq (sym head) back) in
      λ i. head i ∷ tail i

-- ---- what is seen of elements

module _ {P K : Type 0} (f : P → K) where
  all_seen : (Q : K → Type 0) (xs : List P) → AllByRecursion (λ x. Q (f x)) xs
      → AllByRecursion Q (map f xs)
  all_seen Q [] all = tt
  all_seen Q (x ∷ xs) all = (all.0, all_seen Q xs all.1)

  pub ascending_seen : (R : K → K → Ordering) (xs : List P) → IsStrictlySortedBy (on f R) xs
      → IsStrictlySortedBy R (map f xs)
  unfolding IsStrictlySortedBy
  ascending_seen R [] up = tt
  ascending_seen R (x ∷ xs) up =
      let own = all_seen (λ z. R (f x) z ≡ Less) xs up.0 in (own, ascending_seen R xs up.1)

  module _ (same : K → K → Bool) where
    dedup_seen_from : (last : P) (xs : List P)
        → map f (dedup_from (on f same) last xs) ≡ dedup_from same (f last) (map f xs)
    dedup_seen_from last [] = refl
    dedup_seen_from last (x ∷ xs) = elim (cases_Bool (same (f x) (f last))) [
      | inl t ↦ rw (t, dedup_seen_from last xs) refl
      | inr t ↦ rw (t, dedup_seen_from x xs) refl
    ]

    pub dedup_seen : (xs : List P) → map f (dedup (on f same) xs) ≡ dedup same (map f xs)
    dedup_seen [] = refl
    dedup_seen (x ∷ xs) = dedup_seen_from x xs
