-- The place of the first of a list that passes a test, and one more after the list.
use Rattle.std.proofs.Common.{◌≡◌, ◌∙◌, ℕ, suc, ◌+◌, Bool, true, false, cond, List, [], ◌∷◌, ◌++◌, length, refl, sym, ap, arith, inl, inr, Option, Some, None, is_some, position, slice_get}
use Rattle.std.specs.List.{list_any, find, position_from}
use Rattle.std.specs.Option.{option_or}
use Rattle.std.proofs.lemmas.Bool.{cases_Bool}
use Rattle.std.proofs.lemmas.Iterator.Adapters.{position_from-zero}

-- the place by recursion
pub position_is : {X : Type 0} (test : X → Bool) (xs : List X) → position test xs ≡ position_from test 0 xs
position_is test xs = position_from-zero test xs

any_from : {X : Type 0} (test : X → Bool) (n : ℕ) (xs : List X) → list_any test xs ≡ is_some (position_from test n xs)
any_from test n [] = refl
any_from test n (x ∷ xs) = elim (cases_Bool (test x)) [ inl so ↦ rw so refl | inr not_so ↦ rw not_so (any_from test (n + 1) xs) ]

-- there is a place where one passes
pub any_placed : {X : Type 0} (test : X → Bool) (xs : List X) → list_any test xs ≡ is_some (position test xs)
any_placed test xs = any_from test 0 xs ∙ ap is_some (sym (position_is test xs))

none_from : (o : Option ℕ) → is_some o ≡ false → o ≡ None
none_from None e = refl
none_from (Some x) e = absurd cc

or_none : (o : Option ℕ) → option_or o None ≡ o
or_none None = refl
or_none (Some x) = refl

push_from : {X : Type 0} (test : X → Bool) (n : ℕ) (xs : List X) (x : X) → position_from test n (xs ++ x ∷ []) ≡ option_or (position_from test n xs) (cond (test x) (Some (n + length xs)) None)
push_from test n [] x = let e : n + 0 ≡ n = omega arith in rw e refl
push_from test n (y ∷ xs) x = elim (cases_Bool (test y)) [
  | inl so ↦ rw so refl
  | inr not_so ↦ (let e : n + suc (length xs) ≡ (n + 1) + length xs = omega arith in rw (not_so, e) (push_from test (n + 1) xs x))
]

push_placed : {X : Type 0} (test : X → Bool) (xs : List X) (x : X) → position test (xs ++ x ∷ []) ≡ option_or (position test xs) (cond (test x) (Some (length xs)) None)
push_placed test xs x =
    let e : 0 + length xs ≡ length xs = omega arith in
    position_is test (xs ++ x ∷ []) ∙ push_from test 0 xs x ∙ ap (λ (n : ℕ). option_or (position_from test 0 xs) (cond (test x) (Some n) None)) e
    ∙ ap (λ (o : Option ℕ). option_or o (cond (test x) (Some (length xs)) None)) (sym (position_is test xs))

-- what a map says of a test after one more, where it said the place before: the length, where the new
-- one is meant, and else what it said before
pub one_more : {X : Type 0} (test : X → Bool) (xs : List X) (x : X) (hit : Bool) (new old : Option ℕ) (place : ℕ)
    → hit ≡ test x → place ≡ length xs → old ≡ position test xs → (hit ≡ true → is_some (position test xs) ≡ false)
    → new ≡ cond hit (Some place) old → new ≡ position test (xs ++ x ∷ [])
one_more test xs x hit new old place meant at was absent e = elim (cases_Bool hit) [
  | inl so ↦
      (let here : test x ≡ true = sym meant ∙ so in
      let none : position test xs ≡ None = none_from (position test xs) (absent so) in
      let told : new ≡ Some place = e ∙ ap (λ b. cond b (Some place) old) so in
      told ∙ ap (λ n. Some n) at ∙ sym (push_placed test xs x ∙ rw (none, here) refl))
  | inr not_so ↦
      (let other : test x ≡ false = sym meant ∙ not_so in
      let told : new ≡ old = e ∙ ap (λ b. cond b (Some place) old) not_so in
      told ∙ was ∙ sym (push_placed test xs x ∙ rw other (or_none (position test xs))))
]

record Found {X : Type 0} (test : X → Bool) (n p : ℕ) (xs : List X) : Type 0 where
  place : ℕ
  behind : p ≡ n + place
  there : slice_get xs place ≡ find test xs
  some : is_some (find test xs) ≡ true

found_from : {X : Type 0} (test : X → Bool) (n p : ℕ) (xs : List X) → position_from test n xs ≡ Some p → Found test n p xs
found_from test n p [] e = absurd cc
found_from test n p (x ∷ xs) e = elim (cases_Bool (test x)) [
  | inl so ↦ (let told : Some n ≡ Some p = rw so at e in let same : n ≡ p = cc in record { place = 0; behind = omega (arith, same); there = rw so refl; some = rw so refl })
  | inr not_so ↦ (let r = found_from test (n + 1) p xs (rw not_so at e) in
      record { place = suc r.place; behind = omega (arith, r.behind); there = rw not_so r.there; some = rw not_so r.some })
]

-- at the place stands the first that passes
pub found_at : {X : Type 0} (test : X → Bool) (p : ℕ) (xs : List X) → position test xs ≡ Some p → slice_get xs p ≡ find test xs
found_at test p xs e =
    let r = found_from test 0 p xs (sym (position_is test xs) ∙ e) in
    let same : p ≡ r.place = omega (arith, r.behind) in
    ap (slice_get xs) same ∙ r.there

pub find_some : {X : Type 0} (test : X → Bool) (p : ℕ) (xs : List X) → position test xs ≡ Some p → is_some (find test xs) ≡ true
find_some test p xs e = (found_from test 0 p xs (sym (position_is test xs) ∙ e)).some
