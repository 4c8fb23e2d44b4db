-- Lists side by side.
use Rattle.std.proofs.Common.{◌≡◌, ◌∙◌, ℕ, zero, suc, List, [], ◌∷◌, ◌++◌, length, Some, slice_get, refl, ap, subst}
use Rattle.std.specs.List.{AllZip}
use Rattle.std.proofs.lemmas.Option.{same_Some}

pub zip_length : {X Y : Type 0} (R : X → Y → Type 0) (xs : List X) (ys : List Y) → AllZip R xs ys
    → length xs ≡ length ys
zip_length R [] [] h = refl
zip_length R [] (y ∷ ys) h = absurd h
zip_length R (x ∷ xs) [] h = absurd h
zip_length R (x ∷ xs) (y ∷ ys) h = ap suc (zip_length R xs ys h.1)

pub zip_joined : {X Y : Type 0} (R : X → Y → Type 0) (xs more_xs : List X) (ys more_ys : List Y)
    → AllZip R xs ys → AllZip R more_xs more_ys → AllZip R (xs ++ more_xs) (ys ++ more_ys)
zip_joined R [] mx [] my zip more = more
zip_joined R [] mx (y ∷ ys) my zip more = absurd zip
zip_joined R (x ∷ xs) mx [] my zip more = absurd zip
zip_joined R (x ∷ xs) mx (y ∷ ys) my zip more = (zip.0, zip_joined R xs mx ys my zip.1 more)

-- what stands on the right of one, and on the left
pub zip_right : {X Y : Type 0} (R : X → Y → Type 0) (xs : List X) (ys : List Y) (i : ℕ) (x : X)
    → AllZip R xs ys → slice_get xs i ≡ Some x → (y : Y) × (slice_get ys i ≡ Some y) × R x y
zip_right R [] ys i x zip here = absurd cc
zip_right R (z ∷ xs) [] i x zip here = absurd zip
zip_right R (z ∷ xs) (y ∷ ys) zero x zip here =
    (y, refl, subst (λ a. R a y) (same_Some z x here) zip.0)
zip_right R (z ∷ xs) (y ∷ ys) (suc i) x zip here = zip_right R xs ys i x zip.1 here

pub zip_left : {X Y : Type 0} (R : X → Y → Type 0) (xs : List X) (ys : List Y) (i : ℕ) (y : Y)
    → AllZip R xs ys → slice_get ys i ≡ Some y → (x : X) × (slice_get xs i ≡ Some x) × R x y
zip_left R [] [] i y zip here = absurd cc
zip_left R [] (z ∷ ys) i y zip here = absurd zip
zip_left R (x ∷ xs) [] i y zip here = absurd zip
zip_left R (x ∷ xs) (z ∷ ys) zero y zip here =
    (x, refl, subst (λ b. R x b) (same_Some z y here) zip.0)
zip_left R (x ∷ xs) (z ∷ ys) (suc i) y zip here = zip_left R xs ys i y zip.1 here

-- where each fixes the other, one list fixes the other
pub zip_one : {X Y : Type 0} (R : X → Y → Type 0) → ((x : X) (y z : Y) → R x y → R x z → y ≡ z)
    → (xs : List X) (ys zs : List Y) → AllZip R xs ys → AllZip R xs zs → ys ≡ zs
zip_one R one [] [] [] h k = refl
zip_one R one [] [] (z ∷ zs) h k = absurd k
zip_one R one [] (y ∷ ys) zs h k = absurd h
zip_one R one (x ∷ xs) [] zs h k = absurd h
zip_one R one (x ∷ xs) (y ∷ ys) [] h k = absurd k
zip_one {Y = Y} R one (x ∷ xs) (y ∷ ys) (z ∷ zs) h k =
    ap (λ (w : Y). w ∷ ys) (one x y z h.0 k.0)
    ∙ ap (λ (ws : List Y). z ∷ ws) (zip_one R one xs ys zs h.1 k.1)
