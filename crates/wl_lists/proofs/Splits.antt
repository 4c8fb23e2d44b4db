-- A list at a place.
use Rattle.std.proofs.Common.{◌≡◌, ℕ, zero, suc, ◌<◌, List, [], ◌∷◌, length, drop, refl, arith, Some, slice_get}

-- what a list has at a place, and what it has after it
pub record Splits {X : Type 0} (xs : List X) (k : ℕ) : Type 0 where
  pub x : X
  pub here : slice_get xs k ≡ Some x
  pub split : drop k xs ≡ x ∷ drop (suc k) xs

pub splits : {X : Type 0} (xs : List X) (k : ℕ) → k < length xs → Splits xs k
splits [] k lt = absurd (omega (arith, lt))
splits (x ∷ xs) zero lt = record { x = x; here = refl; split = refl }
splits (x ∷ xs) (suc k) lt =
    let rest = splits xs k (omega (arith, lt)) in
    record { x = rest.x; here = rest.here; split = rest.split }
