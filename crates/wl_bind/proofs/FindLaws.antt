-- What a search finds, and what optional things that are put together say.
use Rattle.std.proofs.Common.{◌≡◌, ◌⊎◌, ℕ, ◌+◌, ◌<◌, length, drop, drop-cons, get_or, add-one, Bool, true, false, List, [], ◌∷◌, refl, subst, inl, inr, Option, Some, None, Contains, find}
use Rattle.std.specs.Option.{option_or, option_map, option_map_or}
use Rattle.std.proofs.lemmas.Bool.{cases_Bool}
use Rattle.std.proofs.lemmas.Option.{same_Some}
use Rattle.wl_lists.proofs.In.{Contains-here, Contains-there, Contains-none, Contains-cons_cases}

-- ---- searches

-- what is found stands in the list, and passes
pub find_some : {X : Type 0} (test : X → Bool) (xs : List X) (x : X) → find test xs ≡ Some x → Contains xs x × (test x ≡ true)
find_some test [] x e = absurd (cc)
find_some test (y ∷ xs) x e = elim (cases_Bool (test y)) [
  | inl t ↦
      let same : y ≡ x = same_Some y x (rw t at e) in
      (subst (λ z. Contains (y ∷ xs) z) same (Contains-here y xs), subst (λ z. test z ≡ true) same t)
  | inr f ↦ let h = find_some test xs x (rw f at e) in (Contains-there y x xs h.0, h.1)
]

-- where nothing is found, nothing of the list passes
pub find_none : {X : Type 0} (test : X → Bool) (xs : List X) → find test xs ≡ None → (x : X) → Contains xs x → test x ≡ false
find_none test [] e x m = absurd (Contains-none x m)
find_none test (y ∷ xs) e x m = elim (cases_Bool (test y)) [
  | inl t ↦ absurd (let h : Some y ≡ None = rw t at e in cc)
  | inr f ↦ elim (Contains-cons_cases y x xs m) [
    | inl here ↦ subst (λ z. test z ≡ false) here f
    | inr there ↦ find_none test xs (rw f at e) x there
  ]
]

-- one that fails is passed over
pub find_next : {X : Type 0} (test : X → Bool) (xs : List X) (k : ℕ) (d : X) → k < length xs → test (get_or xs k d) ≡ false
    → find test (drop k xs) ≡ find test (drop (k + 1) xs)
find_next test xs k d lt f =
    let split : drop k xs ≡ get_or xs k d ∷ drop (k + 1) xs = rw (add-one) (drop-cons xs k d lt) in
    rw (split, f) refl

-- ---- optional things

pub or_none : {X : Type 0} (a b : Option X) → option_or a b ≡ None → (a ≡ None) × (b ≡ None)
or_none None b e = (refl, e)
or_none (Some x) b e = absurd (cc)

pub or_some : {X : Type 0} (a b : Option X) (x : X) → option_or a b ≡ Some x → (a ≡ Some x) ⊎ ((a ≡ None) × (b ≡ Some x))
or_some None b x e = inr (refl, e)
or_some (Some y) b x e = inl e

pub map_none : {X Y : Type 0} (f : X → Y) (a : Option X) → option_map f a ≡ None → a ≡ None
map_none f None e = refl
map_none f (Some x) e = absurd (cc)

-- it is there and passes
pub map_or_true : {X : Type 0} (test : X → Bool) (a : Option X) → option_map_or test a false ≡ true → (x : X) × (a ≡ Some x) × (test x ≡ true)
map_or_true test None e = absurd (cc)
map_or_true test (Some x) e = (x, refl, e)
