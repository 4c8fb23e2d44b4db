-- What stands at the places of a list.
use Rattle.std.proofs.Common.{◌≡◌, ◌⊎◌, ◌∙◌, ℕ, zero, suc, ◌+◌, ◌<◌, Bool, true, List, [], ◌∷◌, ◌++◌, length, map, take, get_or, slice_get, Some, refl, sym, ap, subst, arith, inl, inr}
use Rattle.std.specs.List.{AllByRecursion, list_all, range_with_len}
use Rattle.std.proofs.lemmas.Bool.{and_parts}
use Rattle.std.proofs.lemmas.List.{map_more}
use Rattle.std.proofs.lemmas.Option.{same_Some, slice_get-get_or}

-- below its length a list has something
pub there_is : {X : Type 0} (xs : List X) (k : ℕ) → k < length xs
    → (x : X) × (slice_get xs k ≡ Some x)
there_is [] k lt = absurd (omega (arith, lt))
there_is (x ∷ xs) zero lt = (x, refl)
there_is (x ∷ xs) (suc k) lt = there_is xs k (omega (arith, lt))

-- what is read there
pub item_at : {X : Type 0} (xs : List X) (i : ℕ) (x : X) → i < length xs → x ≡ get_or xs i x
    → slice_get xs i ≡ Some x
item_at xs i x lt is = slice_get-get_or xs i x lt ∙ ap (λ y. Some y) (sym is)

-- ---- what all have

pub all_append : {X : Type 0} (P : X → Type 0) (xs ys : List X) → AllByRecursion P xs
    → AllByRecursion P ys → AllByRecursion P (xs ++ ys)
all_append P [] ys h k = k
all_append P (x ∷ xs) ys h k = (h.0, all_append P xs ys h.1 k)

pub all_at : {X : Type 0} (P : X → Type 0) (xs : List X) (i : ℕ) (x : X) → AllByRecursion P xs
    → slice_get xs i ≡ Some x → P x
all_at P [] i x all here = absurd cc
all_at P (y ∷ xs) zero x all here = subst P (same_Some y x here) all.0
all_at P (y ∷ xs) (suc i) x all here = all_at P xs i x all.1 here

pub test_at : {X : Type 0} (test : X → Bool) (xs : List X) (k : ℕ) (x : X)
    → list_all test xs ≡ true → slice_get xs k ≡ Some x → test x ≡ true
test_at test [] k x all here = absurd cc
test_at {X} test (y ∷ xs) zero x all here =
    subst (λ (z : X). test z ≡ true) (same_Some y x here)
    (and_parts (test y) (list_all test xs) all).0
test_at test (y ∷ xs) (suc k) x all here =
    test_at test xs k x (and_parts (test y) (list_all test xs) all).1 here

-- ---- two lists

-- in the first one of two, and in the second one
pub get_in_front : {X : Type 0} (xs ys : List X) (k : ℕ) (x : X) → slice_get xs k ≡ Some x
    → slice_get (xs ++ ys) k ≡ Some x
get_in_front [] ys k x e = absurd cc
get_in_front (y ∷ xs) ys zero x e = e
get_in_front (y ∷ xs) ys (suc k) x e = get_in_front xs ys k x e

pub get_behind : {X : Type 0} (xs ys : List X) (k n : ℕ) → length xs + k ≡ n
    → slice_get (xs ++ ys) n ≡ slice_get ys k
get_behind [] ys k n e = let e' : n ≡ k = omega (arith, e) in rw e'
get_behind (x ∷ xs) ys k zero e = absurd (omega (arith, e))
get_behind (x ∷ xs) ys k (suc n) e = get_behind xs ys k n (omega (arith, e))

-- in one of them
pub append_split : {X : Type 0} (xs ys : List X) (i : ℕ) (x : X) → slice_get (xs ++ ys) i ≡ Some x
    → (slice_get xs i ≡ Some x) ⊎ ((j : ℕ) × (i ≡ length xs + j) × (slice_get ys j ≡ Some x))
append_split [] ys i x here = inr (i, omega arith, here)
append_split (y ∷ xs) ys zero x here = inl here
append_split (y ∷ xs) ys (suc i) x here = elim (append_split xs ys i x here) [
  | inl front ↦ inl front
  | inr behind ↦ inr (behind.0, omega (arith, behind.1), behind.2)
]

-- ---- what is made of each

-- what is made of one, and what something was made of
pub mapped_at : {X Y : Type 0} (f : X → Y) (xs : List X) (k : ℕ) (x : X) → slice_get xs k ≡ Some x
    → slice_get (map f xs) k ≡ Some (f x)
mapped_at f [] k x e = absurd cc
mapped_at f (y ∷ xs) zero x e = ap (λ z. Some (f z)) (same_Some y x e)
mapped_at f (y ∷ xs) (suc k) x e = mapped_at f xs k x e

pub came_at : {X Y : Type 0} (f : X → Y) (xs : List X) (k : ℕ) (y : Y)
    → slice_get (map f xs) k ≡ Some y → (x : X) × (slice_get xs k ≡ Some x) × (f x ≡ y)
came_at f [] k y e = absurd cc
came_at f (x ∷ xs) zero y e = (x, refl, same_Some (f x) y e)
came_at f (x ∷ xs) (suc k) y e = came_at f xs k y e

-- what is made of the first, and of one more
pub mapped_more : {X Y : Type 0} (f : X → Y) (xs : List X) (i : ℕ) (x : X) (old new : List Y) (y : Y)
    → i < length xs → x ≡ get_or xs i x → y ≡ f x → new ≡ old ++ y ∷ []
    → old ≡ map f (take i xs) → new ≡ map f (take (i + 1) xs)
mapped_more {X} {Y} f xs i x old new y lt here made pushed so_far =
    pushed
    ∙ (ap (λ (ys : List Y). ys ++ y ∷ []) so_far
    ∙ (ap (λ (z : Y). map f (take i xs) ++ z ∷ []) (made ∙ ap f here)
    ∙ sym (map_more f xs i x lt)))

-- what is made of a number
pub range_at : {Y : Type 0} (f : ℕ → Y) (a n k : ℕ) → k < n
    → slice_get (map f (range_with_len a n)) k ≡ Some (f (a + k))
range_at f a zero k lt = absurd (omega (arith, lt))
range_at f a (suc n) zero lt = let e : a ≡ a + 0 = omega arith in ap (λ m. Some (f m)) e
range_at f a (suc n) (suc k) lt =
    let e : (a + 1) + k ≡ a + suc k = omega arith in
    range_at f (a + 1) n k (omega (arith, lt)) ∙ ap (λ m. Some (f m)) e
