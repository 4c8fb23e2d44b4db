-- A list in order of a key is fixed by its entries.
use Rattle.std.proofs.Common.{◌≡◌, ℕ, suc, ◌<◌, ◌≤◌, Bool, true, false, cond, eqb, List, [], ◌∷◌, length, get_or, filter, refl, sym, ap, subst, ◌∙◌, arith, inl, inr, eq-eqb}
use Rattle.std.specs.List.{AllByRecursion}
use Rattle.std.specs.List.Sorted.{IsNonDecreasingBy, IsStableByKey, ties}
use Rattle.std.specs.Ordering.{nat_cmp, is_lt}
use Rattle.std.proofs.lemmas.Bool.{cases_lt, lt-ltb, le-ltb}

module _ {X : Type 0} (key : X → ℕ) where
  -- entries of one key tie
  abbrev ties_with : X → X → Bool
  ties_with x y = ties (λ a b. is_lt (nat_cmp (key a) (key b))) x y

  tie : (x y : X) → key x ≡ key y → ties_with x y ≡ true
  tie x y e =
      let same : eqb (key x) (key y) ≡ true = eq-eqb (key x) (key y) e in
      let other : eqb (key y) (key x) ≡ true = eq-eqb (key y) (key x) (sym e) in
      rw (
        le-ltb (key x) (key y) (omega (arith, e)),
        same,
        le-ltb (key y) (key x) (omega (arith, e)),
        other,
      ) refl

  no_tie : (x y : X) → key x < key y → ties_with x y ≡ false
  no_tie x y lt = rw (lt-ltb (key x) (key y) lt) refl

  -- none has a key below that of one before it
  abbrev Rises : List X → Type 0
  Rises [] = Unit {0}
  Rises (x ∷ xs) = AllByRecursion (λ (y : X). key x ≤ key y) xs × Rises xs

  all_by_index : (P : X → Type 0) (xs : List X)
      → ((k : ℕ) (d : X) → k < length xs → P (get_or xs k d)) → AllByRecursion P xs
  all_by_index P [] h = tt
  all_by_index P (x ∷ xs) h =
      (h 0 x (omega arith), all_by_index P xs (λ k d lt. h (suc k) d (omega arith)))

  rises : (xs : List X) → IsNonDecreasingBy key xs → Rises xs
  rises [] h = tt
  rises (x ∷ xs) h = (
    all_by_index (λ (y : X). key x ≤ key y) xs
        (λ k d lt. h 0 (suc k) d (omega arith) (omega arith)),
    rises xs (λ i j d le lt. h (suc i) (suc j) d (omega arith) (omega arith)),
  )

  none_tie : (x : X) (ys : List X) → AllByRecursion (λ (y : X). key x < key y) ys
      → filter (ties_with x) ys ≡ []
  none_tie x [] h = refl
  none_tie x (y ∷ ys) h = rw (no_tie x y h.0) (none_tie x ys h.1)

  farther : (x z : X) (zs : List X) → key x < key z
      → AllByRecursion (λ (y : X). key z ≤ key y) zs → AllByRecursion (λ (y : X). key x < key y) zs
  farther x z [] lt h = tt
  farther x z (y ∷ zs) lt h = (omega (arith, h.0), farther x z zs lt h.1)

  abbrev Same : List X → List X → Type 0
  Same ys zs = (x : X) → filter (ties_with x) ys ≡ filter (ties_with x) zs

  -- the first of one isn't before all of the other
  not_before : (y : X) (ys : List X) (z : X) (zs : List X) → key y < key z → Rises (z ∷ zs)
      → filter (ties_with y) (y ∷ ys) ≡ filter (ties_with y) (z ∷ zs) → ⊥
  not_before y ys z zs lt up same =
      let none : filter (ties_with y) (z ∷ zs) ≡ [] =
      none_tie y (z ∷ zs) (lt, farther y z zs lt up.0) in
      let some = rw (tie y y refl) at same in
      let f = some ∙ none in
      absurd cc

  tails : (x y : X) (ys zs : List X) (b : Bool)
      → cond b (y ∷ filter (ties_with x) ys) (filter (ties_with x) ys)
      ≡ cond b (y ∷ filter (ties_with x) zs) (filter (ties_with x) zs)
      → filter (ties_with x) ys ≡ filter (ties_with x) zs
  tails x y ys zs true e = cc
  tails x y ys zs false e = e

  same_heads : (y z : X) (ys zs : List X) → key y ≡ key z
      → filter (ties_with y) (y ∷ ys) ≡ filter (ties_with y) (z ∷ zs) → y ≡ z
  same_heads y z ys zs e same = let f = rw (tie y y refl, tie y z e) at same in cc

  same_lists : (ys zs : List X) → Rises ys → Rises zs → Same ys zs → ys ≡ zs
  same_lists [] [] up up' same = refl
  same_lists [] (z ∷ zs) up up' same = absurd (let f = rw (tie z z refl) at (same z) in cc)
  same_lists (y ∷ ys) [] up up' same = absurd (let f = rw (tie y y refl) at (same y) in cc)
  same_lists (y ∷ ys) (z ∷ zs) up up' same =
      elim (cases_lt (key y) (key z)) [
        | inl lt ↦ absurd (not_before y ys z zs lt up' (same y))
        | inr le ↦ elim (cases_lt (key z) (key y)) [
          | inl lt ↦ absurd (not_before z zs y ys lt up (sym (same z)))
          | inr le' ↦
              let first : y ≡ z = same_heads y z ys zs (omega arith) (same y) in
              let rest : Same ys zs = λ x. tails x y ys zs (ties_with x y)
              (subst (λ (w : X). filter (ties_with x) (y ∷ ys) ≡ filter (ties_with x) (w ∷ zs))
              (sym first) (same x)) in
              ap (λ (w : X). w ∷ ys) first
              ∙ ap (λ (ws : List X). z ∷ ws) (same_lists ys zs up.1 up'.1 rest)
        ]
      ]

  -- entries have one order
  pub order_one : (entries ys zs : List X) → IsNonDecreasingBy key ys
      → IsStableByKey key nat_cmp entries ys → IsNonDecreasingBy key zs
      → IsStableByKey key nat_cmp entries zs → ys ≡ zs
  order_one entries ys zs up stable up' stable' =
      same_lists ys zs (rises ys up) (rises zs up') (λ x. stable x ∙ sym (stable' x))
