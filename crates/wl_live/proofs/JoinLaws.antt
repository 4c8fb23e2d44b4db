-- Lists that are joined end to end, and what stands in them.
use Rattle.std.proofs.Common.{◌≡◌, ℕ, zero, suc, ◌+◌, List, [], ◌∷◌, ◌++◌, map, inl, inr, refl, sym, subst, arith, Option, Some, None, slice_get, Contains}
use Rattle.std.specs.List.{flat_map}
use Rattle.std.specs.Option.{option_map, option_to_list}
use Rattle.std.proofs.lemmas.List.Elements.{Contains-append_left, Contains-append_right, Contains-append_cases}
use Rattle.std.proofs.lemmas.Option.{same_Some}
use Rattle.wl_lists.proofs.In.{Contains-none, Contains-here, Contains-there, Contains-cons_cases}

pub in_single : {X : Type 0} (x y : X) → Contains (x ∷ []) y → y ≡ x
in_single x y (zero, lt, e) = sym e
in_single x y (suc k, lt, e) = absurd (omega arith)

-- ---- with a running number

pub in_joined : {X Y : Type 0} (F : ℕ → X → List Y) (G : ℕ → List X → List Y) → ((i : ℕ) → G i [] ≡ []) → ((i : ℕ) (x : X) (xs : List X) → G i (x ∷ xs) ≡ F i x ++ G (i + 1) xs) → (i : ℕ) (xs : List X) (y : Y) → Contains (G i xs) y → (k : ℕ) × (x : X) × (slice_get xs k ≡ Some x) × Contains (F (i + k) x) y
in_joined {Y = Y} F G nil cons i [] y m = absurd (Contains-none y (subst (λ (l : List Y). Contains l y) (nil i) m))
in_joined {Y = Y} F G nil cons i (x ∷ xs) y m =
    elim (Contains-append_cases (F i x) (G (i + 1) xs) y (subst (λ (l : List Y). Contains l y) (cons i x xs) m)) [
      | inl here ↦ let e : i ≡ i + 0 = omega arith in (0, x, refl, subst (λ n. Contains (F n x) y) e here)
      | inr there ↦
          let r = in_joined F G nil cons (i + 1) xs y there in
          let e : i + 1 + r.0 ≡ i + suc r.0 = omega arith in
          (suc r.0, r.1, r.2, subst (λ n. Contains (F n r.1) y) e r.3)
    ]

pub joined_in : {X Y : Type 0} (F : ℕ → X → List Y) (G : ℕ → List X → List Y) → ((i : ℕ) (x : X) (xs : List X) → G i (x ∷ xs) ≡ F i x ++ G (i + 1) xs) → (i : ℕ) (xs : List X) (k : ℕ) (x : X) (y : Y) → slice_get xs k ≡ Some x → Contains (F (i + k) x) y → Contains (G i xs) y
joined_in F G cons i [] k x y at m = absurd (cc)
joined_in {Y = Y} F G cons i (z ∷ xs) zero x y at m =
    let e : i + 0 ≡ i = omega arith in
    let same : x ≡ z = sym (same_Some z x at) in
    subst (λ (l : List Y). Contains l y) (sym (cons i z xs)) (Contains-append_left (F i z) (G (i + 1) xs) y (subst (λ w. Contains (F i w) y) same (subst (λ n. Contains (F n x) y) e m)))
joined_in {Y = Y} F G cons i (z ∷ xs) (suc k) x y at m =
    let e : i + suc k ≡ i + 1 + k = omega arith in
    subst (λ (l : List Y). Contains l y) (sym (cons i z xs)) (Contains-append_right (F i z) (G (i + 1) xs) y (joined_in F G cons (i + 1) xs k x y at (subst (λ n. Contains (F n x) y) e m)))

-- ---- without one

pub in_flat : {X Y : Type 0} (f : X → List Y) (xs : List X) (y : Y) → Contains (flat_map f xs) y → (x : X) × Contains xs x × Contains (f x) y
in_flat f [] y m = absurd (Contains-none y m)
in_flat f (x ∷ xs) y m =
    elim (Contains-append_cases (f x) (flat_map f xs) y m) [
      | inl here ↦ (x, Contains-here x xs, here)
      | inr there ↦ let r = in_flat f xs y there in (r.0, Contains-there x r.0 xs r.1, r.2)
    ]

pub flat_in : {X Y : Type 0} (f : X → List Y) (xs : List X) (x : X) (y : Y) → Contains xs x → Contains (f x) y → Contains (flat_map f xs) y
flat_in f [] x y m here = absurd (Contains-none x m)
flat_in {X = X} f (z ∷ xs) x y m here =
    elim (Contains-cons_cases z x xs m) [
      | inl e ↦ Contains-append_left (f z) (flat_map f xs) y (subst (λ (w : X). Contains (f w) y) (sym e) here)
      | inr there ↦ Contains-append_right (f z) (flat_map f xs) y (flat_in f xs x y there here)
    ]

pub in_map : {X Y : Type 0} (f : X → Y) (xs : List X) (y : Y) → Contains (map f xs) y → (x : X) × Contains xs x × (f x ≡ y)
in_map f [] y m = absurd (Contains-none y m)
in_map f (x ∷ xs) y m =
    elim (Contains-cons_cases (f x) y (map f xs) m) [
      | inl e ↦ (x, Contains-here x xs, e)
      | inr there ↦ let r = in_map f xs y there in (r.0, Contains-there x r.0 xs r.1, r.2)
    ]

-- ---- what there is

pub in_option : {X Y : Type 0} (f : X → Y) (o : Option X) (y : Y) → Contains (option_to_list (option_map f o)) y → (x : X) × (o ≡ Some x) × (f x ≡ y)
in_option f None y m = absurd (Contains-none y m)
in_option f (Some x) y (zero, lt, e) = (x, refl, e)
in_option f (Some x) y (suc k, lt, e) = absurd (omega arith)

pub option_in : {X Y : Type 0} (f : X → Y) (o : Option X) (x : X) → o ≡ Some x → Contains (option_to_list (option_map f o)) (f x)
option_in f o x e = rw e (Contains-here (f x) [])
