-- What stands in a list.
use Rattle.std.proofs.Common.{◌≡◌, ◌⊎◌, ℕ, zero, suc, Bool, true, false, if◌then◌else◌, List, [], ◌∷◌, ◌++◌, length, map, filter, filter_map, refl, sym, ap, subst, arith, inl, inr, Option, Some, slice_get, Contains}
use Rattle.std.proofs.lemmas.Bool.{cases_Bool}
use Rattle.std.proofs.lemmas.List.Elements.{Contains-append_right}
use Rattle.std.proofs.lemmas.Option.{same_Some}

-- ---- by places

pub Contains-none : {X : Type 0} (x : X) → Contains [] x → ⊥
Contains-none x m = omega (arith, m.1)

pub Contains-here : {X : Type 0} (x : X) (xs : List X) → Contains (x ∷ xs) x
Contains-here x xs = (0, omega arith, refl)

pub Contains-there : {X : Type 0} (x y : X) (xs : List X) → Contains xs y → Contains (x ∷ xs) y
Contains-there x y xs m = Contains-append_right (x ∷ []) xs y m

-- what is in a list is its first or follows it
pub Contains-cons_cases : {X : Type 0} (x y : X) (xs : List X) → Contains (x ∷ xs) y
    → (x ≡ y) ⊎ Contains xs y
Contains-cons_cases x y xs (zero, lt, e) = inl e
Contains-cons_cases x y xs (suc k, lt, e) = inr (k, omega (arith, lt), e)

-- what stands at a place is in the list
pub at_is_in : {X : Type 0} (xs : List X) (k : ℕ) (x : X) → slice_get xs k ≡ Some x → Contains xs x
at_is_in [] k x at = absurd cc
at_is_in (y ∷ xs) zero x at = (zero, omega arith, same_Some y x at)
at_is_in (y ∷ xs) (suc k) x at =
    let rest = at_is_in xs k x at in (suc rest.0, omega (arith, rest.1), rest.2)

-- ---- one by one

-- it is one of them
abbrev pub IsIn : {X : Type 0} → List X → X → Type 0
IsIn [] z = ⊥
IsIn (x ∷ xs) z = (x ≡ z) ⊎ IsIn xs z

pub in_list : {X : Type 0} (xs : List X) (z : X) → IsIn xs z → Contains xs z
in_list [] z h = absurd h
in_list (x ∷ xs) z h = elim h [
  | inl e ↦ (0, omega arith, e)
  | inr r ↦ (let m = in_list xs z r in (suc m.0, omega (arith, m.1), m.2))
]

pub list_in : {X : Type 0} (xs : List X) (z : X) → Contains xs z → IsIn xs z
list_in [] z (k, lt, e) = absurd (omega (arith, lt))
list_in (x ∷ xs) z (zero, lt, e) = inl e
list_in (x ∷ xs) z (suc k, lt, e) = inr (list_in xs z (k, omega (arith, lt), e))

pub in_at : {X : Type 0} (xs : List X) (k : ℕ) (z : X) → slice_get xs k ≡ Some z → IsIn xs z
in_at [] k z e = absurd cc
in_at (x ∷ xs) zero z e = inl (same_Some x z e)
in_at (x ∷ xs) (suc k) z e = inr (in_at xs k z e)

-- it stands somewhere
pub place_in : {X : Type 0} (xs : List X) (x : X) → IsIn xs x → (k : ℕ) × (slice_get xs k ≡ Some x)
place_in [] x h = absurd h
place_in {X} (y ∷ xs) x h = elim h [
  | inl e ↦ (0, ap (λ (z : X). Some z) e)
  | inr r ↦ (let p = place_in xs x r in (suc p.0, p.1))
]

-- in one of two lists
pub in_split : {X : Type 0} (xs ys : List X) (z : X) → IsIn (xs ++ ys) z → IsIn xs z ⊎ IsIn ys z
in_split [] ys z h = inr h
in_split (x ∷ xs) ys z h = elim h [
  | inl e ↦ inl (inl e)
  | inr r ↦ elim (in_split xs ys z r) [ inl a ↦ inl (inr a) | inr b ↦ inr b ]
]

pub in_front : {X : Type 0} (xs ys : List X) (z : X) → IsIn xs z → IsIn (xs ++ ys) z
in_front [] ys z h = absurd h
in_front (x ∷ xs) ys z h = elim h [ inl e ↦ inl e | inr r ↦ inr (in_front xs ys z r) ]

pub in_back : {X : Type 0} (xs ys : List X) (z : X) → IsIn ys z → IsIn (xs ++ ys) z
in_back [] ys z h = h
in_back (x ∷ xs) ys z h = inr (in_back xs ys z h)

-- among those that pass a test
pub in_filter : {X : Type 0} (p : X → Bool) (xs : List X) (z : X) → IsIn (filter p xs) z → IsIn xs z
in_filter p [] z h = h
in_filter p (x ∷ xs) z h = elim (cases_Bool (p x)) [
  | inl t ↦ elim (rw t at h) [ inl e ↦ inl e | inr r ↦ inr (in_filter p xs z r) ]
  | inr f ↦ inr (in_filter p xs z (rw f at h))
]

pub filter_in : {X : Type 0} (p : X → Bool) (xs : List X) (z : X) → p z ≡ true → IsIn xs z
    → IsIn (filter p xs) z
filter_in p [] z passes h = absurd h
filter_in {X} p (x ∷ xs) z passes h = elim h [
  | inl e ↦
      let P : X → Type 0 = λ w. p w ≡ true in
      let t : p x ≡ true = subst P (sym e) passes in
      rw t (inl e)
  | inr r ↦ elim (cases_Bool (p x)) [
    | inl t ↦ rw t (inr (filter_in p xs z passes r))
    | inr f ↦ rw f (filter_in p xs z passes r)
  ]
]

pub Contains-filter : {X : Type 0} (p : X → Bool) (xs : List X) (z : X) → Contains xs z
    → p z ≡ true → Contains (filter p xs) z
Contains-filter p xs z m passes = in_list (filter p xs) z (filter_in p xs z passes (list_in xs z m))

-- what each is made of
pub record Came {X Y : Type 0} (f : X → Y) (xs : List X) (z : Y) : Type 0 where
  pub from : X
  pub there : IsIn xs from
  pub to : f from ≡ z

pub in_map : {X Y : Type 0} (f : X → Y) (xs : List X) (z : Y) → IsIn (map f xs) z → Came f xs z
in_map f [] z h = absurd h
in_map f (x ∷ xs) z h = elim h [
  | inl e ↦ record { from = x; there = inl refl; to = e }
  | inr r ↦ (let c = in_map f xs z r in record { from = c.from; there = inr c.there; to = c.to })
]

pub map_in : {X Y : Type 0} (f : X → Y) (xs : List X) (x : X) → IsIn xs x → IsIn (map f xs) (f x)
map_in f [] x h = absurd h
map_in f (y ∷ xs) x h = elim h [ inl e ↦ inl (ap f e) | inr r ↦ inr (map_in f xs x r) ]

pub Contains-map : {X Y : Type 0} (f : X → Y) (xs : List X) (x : X) → Contains xs x
    → Contains (map f xs) (f x)
Contains-map f xs x m = in_list (map f xs) (f x) (map_in f xs x (list_in xs x m))

pub in_map_filter : {X Y : Type 0} (f : X → Y) (p : X → Bool) (xs : List X) (z : Y)
    → IsIn (map f (filter p xs)) z → IsIn (map f xs) z
in_map_filter f p [] z h = h
in_map_filter f p (x ∷ xs) z h = elim (cases_Bool (p x)) [
  | inl t ↦ elim (rw t at h) [ inl e ↦ inl e | inr r ↦ inr (in_map_filter f p xs z r) ]
  | inr g ↦ inr (in_map_filter f p xs z (rw g at h))
]

-- the one thing of a list, where there is one
pub in_if : {X : Type 0} (b : Bool) (x z : X) → IsIn (if b then x ∷ [] else []) z
    → (b ≡ true) × (x ≡ z)
in_if true x z h = elim h [ inl e ↦ (refl, e) | inr r ↦ absurd r ]
in_if false x z h = absurd h

-- where each has something, what is left has as many
pub all_mapped : {X Y : Type 0} (f : X → Option Y) (xs : List X)
    → ((x : X) → IsIn xs x → (y : Y) × (f x ≡ Some y)) → length (filter_map f xs) ≡ length xs
all_mapped f [] all = refl
all_mapped f (x ∷ xs) all =
    let here = all x (inl refl) in
    rw here.1 (ap suc (all_mapped f xs (λ z h. all z (inr h))))
