-- What stands in lists, and what is found in them.
use Rattle.std.proofs.Common.{◌≡◌, ◌∙◌, ℕ, Bool, true, false, List, [], ◌∷◌, ◌++◌, filter_map, find, position, refl, sym, ap, subst, inl, inr, Option, Some, None}
use Rattle.std.specs.List.{cons_option, list_any}
use Rattle.std.specs.Option.{is_none}
use Rattle.std.proofs.lemmas.Bool.{cases_Bool}
use Rattle.indexmap.specs.IndexSet.{insert_key, insert_all}
use Rattle.wl_lists.proofs.Found.{cases_option}
use Rattle.wl_lists.proofs.In.{IsIn, in_split, list_in}
use Rattle.wl_bind.proofs.LeftLaws.{no_place, any_listed}
use Rattle.wl_bind.proofs.ListLaws.{find_in_front, none_found}
use Rattle.indexmap.proofs.CallerLemmas.{Contains-list_any}

-- ---- tests

pub is_nothing : {X : Type 0} (o : Option X) → is_none o ≡ true → o ≡ None
is_nothing None e = refl
is_nothing (Some x) e = absurd cc

-- ---- lists

pub record MadeOf {X Y : Type 0} (f : X → Option Y) (xs : List X) (y : Y) : Type 0 where
  pub x : X
  pub there : IsIn xs x
  pub is : f x ≡ Some y

pub made_of_some : {X Y : Type 0} (f : X → Option Y) (xs : List X) (y : Y) → IsIn (filter_map f xs) y → MadeOf f xs y
made_of_some f [] y h = absurd h
made_of_some {X} {Y} f (x ∷ xs) y h = by (f x) refl (λ r. made_of_some f xs y r) h
  where
    later : MadeOf f xs y → MadeOf f (x ∷ xs) y
    later m = record { x = m.x; there = inr m.there; is = m.is }

    by : (o : Option Y) → f x ≡ o → (IsIn (filter_map f xs) y → MadeOf f xs y) → IsIn (cons_option o (filter_map f xs)) y
        → MadeOf f (x ∷ xs) y
    by None is rest r = later (rest r)
    by (Some z) is rest (inl e) = record { x = x; there = inl refl; is = is ∙ ap Some e }
    by (Some z) is rest (inr r) = later (rest r)

-- one of a list is among the first of those that are the same, where what is the same is one
pub still_in : {X : Type 0} (same : X → X → Bool) → ((a b : X) → same a b ≡ true → a ≡ b) → (xs : List X) (x : X)
    → same x x ≡ true → IsIn xs x → IsIn (insert_all same [] xs) x
still_in same one xs x self h =
    list_in (insert_all same [] xs) x (Contains-list_any same one (insert_all same [] xs) x (any_listed same [] xs x self h))

-- what passes has a place
pub some_place_of : {X : Type 0} (test : X → Bool) (xs : List X) → list_any test xs ≡ true → (k : ℕ) × (position test xs ≡ Some k)
some_place_of test xs any = elim (cases_option (position test xs)) [
  | inr k ↦ k
  | inl none ↦ absurd (let both : true ≡ false = sym any ∙ none_found test xs (no_place test xs none) in cc)
]

-- ---- the first of a list without repeats is found by itself

find_last : {X : Type 0} (test : X → Bool) (xs : List X) (x : X) → list_any test xs ≡ false → test x ≡ true
    → find test (xs ++ x ∷ []) ≡ Some x
find_last test [] x none so = rw so refl
find_last test (y ∷ xs) x none so = elim (cases_Bool (test y)) [
  | inl passed ↦ absurd (let both : true ≡ false = rw passed at none in cc)
  | inr fails ↦ rw fails (find_last test xs x (rw fails at none) so)
]

abbrev FindThemselves : {X : Type 0} → (X → X → Bool) → List X → Type 0
FindThemselves {X} same xs = (x : X) → IsIn xs x → find (same x) xs ≡ Some x

one_finds_itself : {X : Type 0} (same : X → X → Bool) → ((x : X) → same x x ≡ true) → (keys : List X) (y : X)
    → FindThemselves same keys → FindThemselves same (insert_key same keys y)
one_finds_itself {X} same self keys y all = elim (cases_Bool (list_any (same y) keys)) [
  | inl so ↦ rw so all
  | inr new ↦ rw new (λ x h. elim (in_split keys (y ∷ []) x h) [
    | inl before ↦ find_in_front (same x) keys (y ∷ []) x (all x before)
    | inr last ↦ elim last [
      | inl e ↦ subst (λ (z : X). find (same z) (keys ++ y ∷ []) ≡ Some z) e (find_last (same y) keys y new (self y))
      | inr none ↦ absurd none
    ]
  ])
]

all_find_themselves : {X : Type 0} (same : X → X → Bool) → ((x : X) → same x x ≡ true) → (keys xs : List X)
    → FindThemselves same keys → FindThemselves same (insert_all same keys xs)
all_find_themselves same self keys [] all = all
all_find_themselves same self keys (y ∷ xs) all =
    all_find_themselves same self (insert_key same keys y) xs (one_finds_itself same self keys y all)

pub finds_itself : {X : Type 0} (same : X → X → Bool) → ((x : X) → same x x ≡ true) → (xs : List X) (x : X)
    → IsIn (insert_all same [] xs) x → find (same x) (insert_all same [] xs) ≡ Some x
finds_itself same self xs x h = all_find_themselves same self [] xs (λ y none. absurd none) x h
