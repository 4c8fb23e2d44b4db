-- What a search finds, and what there is.
use Rattle.std.proofs.Common.{◌≡◌, ◌⊎◌, ◌∙◌, Bool, true, cond, nat_lt, List, [], ◌∷◌, ◌++◌, ◌+◌, length, refl, ap, inl, inr, Option, Some, None, Contains, position, map}
use Rattle.std.specs.List.{list_any, position_or_len}
use Rattle.std.specs.Option.{option_and_then, option_map}
use Rattle.std.proofs.lemmas.Bool.{cases_Bool, or_left, or_right}
use Rattle.std.proofs.lemmas.List.{length-map}
use Rattle.std.proofs.lemmas.Option.{same_Some}
use Rattle.wl_lists.proofs.In.{IsIn, list_in}

-- ---- one that passes

pub any_front : {X : Type 0} (test : X → Bool) (xs ys : List X) → list_any test xs ≡ true
    → list_any test (xs ++ ys) ≡ true
any_front test [] ys any = absurd cc
any_front test (x ∷ xs) ys any = elim (cases_Bool (test x)) [
  | inl y ↦ rw y refl
  | inr n ↦ rw n (any_front test xs ys (rw n at any))
]

pub any_last : {X : Type 0} (test : X → Bool) (xs : List X) (x : X) → test x ≡ true
    → list_any test (xs ++ x ∷ []) ≡ true
any_last test [] x so = rw so refl
any_last test (y ∷ xs) x so = elim (cases_Bool (test y)) [
  | inl h ↦ rw h refl
  | inr n ↦ rw n (any_last test xs x so)
]

pub any_in : {X : Type 0} (test : X → Bool) (xs : List X) (x : X) → IsIn xs x → test x ≡ true
    → list_any test xs ≡ true
any_in test [] x h so = absurd h
any_in test (y ∷ xs) x h so = elim h [
  | inl e ↦ or_left (test y) (list_any test xs) (rw e so)
  | inr r ↦ or_right (test y) (list_any test xs) (any_in test xs x r so)
]

pub any_of : {X : Type 0} (test : X → Bool) (xs : List X) (x : X) → Contains xs x → test x ≡ true
    → list_any test xs ≡ true
any_of test xs x m so = any_in test xs x (list_in xs x m) so

-- where the first stands that passes, among what is made of each
or_len_map : {X Y : Type 0} (f : X → Y) (test : Y → Bool) (xs : List X)
    → position_or_len test (map f xs) ≡ position_or_len (λ x. test (f x)) xs
or_len_map f test [] = refl
or_len_map f test (x ∷ xs) = elim (cases_Bool (test (f x))) [
  | inl t ↦ rw t refl
  | inr g ↦ rw g (ap (λ n. 1 + n) (or_len_map f test xs))
]

pub position_map : {X Y : Type 0} (f : X → Y) (test : Y → Bool) (xs : List X)
    → position test (map f xs) ≡ position (λ x. test (f x)) xs
position_map f test xs =
    ap (λ n. cond (nat_lt n (length (map f xs))) (Some n) None) (or_len_map f test xs)
    ∙ ap (λ len. cond (nat_lt (position_or_len (λ x. test (f x)) xs) len)
    (Some (position_or_len (λ x. test (f x)) xs)) None) (length-map xs f)

-- ---- options

pub cases_option : {X : Type 0} (o : Option X) → (o ≡ None) ⊎ ((x : X) × (o ≡ Some x))
cases_option None = inl refl
cases_option (Some x) = inr (x, refl)

pub map_some : {X Y : Type 0} (f : X → Y) (o : Option X) (y : Y) → option_map f o ≡ Some y
    → (x : X) × (o ≡ Some x) × (f x ≡ y)
map_some f None y e = absurd cc
map_some f (Some x) y e = (x, refl, same_Some (f x) y e)

pub and_then_some : {X Y : Type 0} (f : X → Option Y) (o : Option X) (y : Y)
    → option_and_then f o ≡ Some y → (x : X) × (o ≡ Some x) × (f x ≡ Some y)
and_then_some f None y e = absurd cc
and_then_some f (Some x) y e = (x, refl, e)
