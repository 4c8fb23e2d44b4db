-- Laws of lists and truth values.
use Rattle.std.proofs.Common.{◌≡◌, ◌∙◌, ℕ, suc, ◌+◌, ◌<◌, Bool, false, List, [], ◌∷◌, ◌++◌, length, find, position, refl, sym, ap, arith, inl, inr, Option, Some, None, nat_lt, subst, filter_map, true, drop, get_or, drop-cons, add-one}
use Rattle.std.proofs.lemmas.Bool.{cases_Bool}
use Rattle.std.proofs.lemmas.List.Folds.{find-append}
use Rattle.std.specs.List.{list_any, position_or_len, cons_option, list_all}
use Rattle.std.specs.Option.{option_or}
use Rattle.wl_lists.proofs.In.{IsIn, place_in}
use Rattle.wl_lists.proofs.Places.{test_at}

pub next_is : (k : ℕ) → suc k ≡ k + 1
next_is k = omega arith

-- what is left from a place on, where what stands there is known
pub drop_here : {X : Type 0} (xs : List X) (k : ℕ) (x : X) → k < length xs → x ≡ get_or xs k x → drop k xs ≡ x ∷ drop (k + 1) xs
drop_here xs k x lt at = rw (add-one, drop-cons xs k x lt, ← at) refl

pub none_found : {X : Type 0} (test : X → Bool) (xs : List X) → find test xs ≡ None → list_any test xs ≡ false
none_found test [] none = refl
none_found test (x ∷ xs) none = elim (cases_Bool (test x)) [
  | inl y ↦ absurd (let told : Some x ≡ None = rw y at none in cc)
  | inr n ↦ rw n (none_found test xs (rw n at none))
]

pub find_in_front : {X : Type 0} (test : X → Bool) (xs more : List X) (x : X) → find test xs ≡ Some x → find test (xs ++ more) ≡ Some x
find_in_front test xs more x e = find-append test xs more ∙ ap (λ o. option_or o (find test more)) e

pub place_lt : {X : Type 0} (test : X → Bool) (xs : List X) (p : ℕ) → position test xs ≡ Some p
    → p < length xs
place_lt test xs p is = elim (cases_Bool (nat_lt (position_or_len test xs) (length xs))) [
  | inl y ↦ (let some : Some (position_or_len test xs) ≡ Some p = rw y at is in
      let at : position_or_len test xs ≡ p = cc in
      let lt : position_or_len test xs < length xs = grind (arith, y) in
      omega (arith, at, lt))
  | inr none ↦ absurd (let nothing : None ≡ Some p = rw none at is in cc)
]

-- what is made of one is among what is made of all
pub made_of_one : {X Y : Type 0} (f : X → Option Y) (xs : List X) (x : X) (y : Y) → IsIn xs x → f x ≡ Some y → IsIn (filter_map f xs) y
made_of_one f [] x y h is = absurd h
made_of_one {X} {Y} f (z ∷ xs) x y (inl e) is =
    let here : f z ≡ Some y = ap f e ∙ is in
    subst (λ (o : Option Y). IsIn (cons_option o (filter_map f xs)) y) (sym here) (inl refl)
made_of_one {X} {Y} f (z ∷ xs) x y (inr r) is = behind_it (f z) (made_of_one f xs x y r is)
  where
    behind_it : (o : Option Y) → IsIn (filter_map f xs) y → IsIn (cons_option o (filter_map f xs)) y
    behind_it None h = h
    behind_it (Some w) h = inr h

-- what holds of all holds of each
pub all_in : {X : Type 0} (test : X → Bool) (xs : List X) (x : X) → list_all test xs ≡ true → IsIn xs x → test x ≡ true
all_in test xs x all h = let at = place_in xs x h in test_at test xs at.0 x all at.1
