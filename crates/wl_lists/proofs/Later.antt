-- Lists in which a fact holds of each element and each later one.
use Rattle.std.proofs.Common.{◌≡◌, ◌<◌, ℕ, zero, suc, List, [], ◌∷◌, ◌++◌, subst, arith, Some, slice_get}
use Rattle.std.specs.List.{AllByRecursion}
use Rattle.wl_lists.proofs.Places.{all_append, all_at}

-- the fact holds of each element and each later one
abbrev pub AllLater : {X : Type 0} → (X → X → Type 0) → List X → Type 0
AllLater R [] = Unit {0}
AllLater R (x ∷ xs) = AllByRecursion (R x) xs × AllLater R xs

pub later_append : {X : Type 0} (R : X → X → Type 0) (xs ys : List X) → AllLater R xs → AllLater R ys → AllByRecursion (λ (x : X). AllByRecursion (R x) ys) xs → AllLater R (xs ++ ys)
later_append R [] ys p q r = q
later_append R (x ∷ xs) ys p q r = (all_append (R x) xs ys p.0 r.0, later_append R xs ys p.1 q r.1)

pub all_of : {X : Type 0} (P : X → Type 0) (xs : List X) → ((x : X) → P x) → AllByRecursion P xs
all_of P [] f = tt
all_of P (x ∷ xs) f = (f x, all_of P xs f)

pub all_map : {X : Type 0} (P Q : X → Type 0) (xs : List X) → ((x : X) → P x → Q x) → AllByRecursion P xs → AllByRecursion Q xs
all_map P Q [] f p = tt
all_map P Q (x ∷ xs) f p = (f x p.0, all_map P Q xs f p.1)

-- the same of two places
pub later_at : {X : Type 0} (R : X → X → Type 0) (xs : List X) (i j : ℕ) (x y : X) → AllLater R xs
    → i < j → slice_get xs i ≡ Some x → slice_get xs j ≡ Some y → R x y
later_at R [] i j x y all lt here there = absurd cc
later_at R (z ∷ xs) zero zero x y all lt here there = absurd (omega (arith, lt))
later_at R (z ∷ xs) zero (suc j) x y all lt here there =
    let is : z ≡ x = cc in
    subst (λ w. R w y) is (all_at (R z) xs j y all.0 there)
later_at R (z ∷ xs) (suc i) zero x y all lt here there = absurd (omega (arith, lt))
later_at R (z ∷ xs) (suc i) (suc j) x y all lt here there =
    later_at R xs i j x y all.1 (omega (arith, lt)) here there
