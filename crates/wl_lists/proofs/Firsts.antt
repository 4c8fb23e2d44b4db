-- The first of each that are the same.
use Rattle.std.proofs.Common.{◌≡◌, ◌⊎◌, Bool, true, List, [], ◌∷◌, ◌++◌, map, inl, inr}
use Rattle.std.specs.List.{list_any}
use Rattle.std.proofs.lemmas.Bool.{cases_Bool}
use Rattle.std.proofs.lemmas.List.{append-nil, append_assoc}
use Rattle.indexmap.specs.IndexSet.{insert_all}
use Rattle.wl_lists.proofs.Found.{any_front, any_in}
use Rattle.wl_lists.proofs.In.{IsIn, in_split}
use Rattle.wl_lists.proofs.Once.{Distinct, distinct-push}

-- ---- what stands among them

pub in_firsts_onto : {X : Type 0} (same : X → X → Bool) (seen xs : List X) (z : X)
    → IsIn (insert_all same seen xs) z → IsIn seen z ⊎ IsIn xs z
in_firsts_onto same seen [] z h = inl h
in_firsts_onto same seen (x ∷ xs) z h = elim (cases_Bool (list_any (same x) seen)) [
  | inl t ↦ elim (in_firsts_onto same seen xs z (rw t at h)) [ inl a ↦ inl a | inr b ↦ inr (inr b) ]
  | inr f ↦ elim (in_firsts_onto same (seen ++ x ∷ []) xs z (rw f at h)) [
    | inl a ↦ elim (in_split seen (x ∷ []) z a) [
      | inl c ↦ inl c
      | inr c ↦ elim c [ inl e ↦ inr (inl e) | inr n ↦ absurd n ]
    ]
    | inr b ↦ inr (inr b)
  ]
]

pub in_firsts : {X : Type 0} (same : X → X → Bool) (xs : List X) (z : X)
    → IsIn (insert_all same [] xs) z → IsIn xs z
in_firsts same xs z h = elim (in_firsts_onto same [] xs z h) [ inl a ↦ absurd a | inr b ↦ b ]

-- one that passes stays
pub any_kept : {X : Type 0} (test : X → Bool) (same : X → X → Bool) (seen xs : List X)
    → list_any test seen ≡ true → list_any test (insert_all same seen xs) ≡ true
any_kept test same seen [] any = any
any_kept test same seen (x ∷ xs) any = elim (cases_Bool (list_any (same x) seen)) [
  | inl t ↦ rw t (any_kept test same seen xs any)
  | inr f ↦ rw f (any_kept test same (seen ++ x ∷ []) xs (any_front test seen (x ∷ []) any))
]

-- ---- of things that differ by a value of each

in_skip : {X Y : Type 0} (f : X → Y) (front : List X) (x : X) (bs : List X) (z : Y)
    → IsIn (map f (front ++ bs)) z → IsIn (map f (front ++ x ∷ bs)) z
in_skip f [] x bs z h = inr h
in_skip f (a ∷ front) x bs z h = elim h [ inl e ↦ inl e | inr r ↦ inr (in_skip f front x bs z r) ]

distinct-skip : {X Y : Type 0} (f : X → Y) (front : List X) (x : X) (bs : List X)
    → Distinct (map f (front ++ x ∷ bs)) → Distinct (map f (front ++ bs))
distinct-skip f [] x bs d = d.1
distinct-skip f (a ∷ front) x bs d =
    (λ h. d.0 (in_skip f front x bs (f a) h), distinct-skip f front x bs d.1)

distinct-firsts_onto : {X Y : Type 0} (f : X → Y) (same : X → X → Bool) (seen xs : List X)
    → Distinct (map f (seen ++ xs)) → Distinct (map f (insert_all same seen xs))
distinct-firsts_onto f same seen [] d = rw append-nil at d
distinct-firsts_onto f same seen (x ∷ xs) d = elim (cases_Bool (list_any (same x) seen)) [
  | inl t ↦ rw t (distinct-firsts_onto f same seen xs (distinct-skip f seen x xs d))
  | inr g ↦ rw g (distinct-firsts_onto f same (seen ++ x ∷ []) xs (rw append_assoc d))
]

pub distinct-firsts : {X Y : Type 0} (f : X → Y) (same : X → X → Bool) (xs : List X)
    → Distinct (map f xs) → Distinct (map f (insert_all same [] xs))
distinct-firsts f same xs d = distinct-firsts_onto f same [] xs d

-- ---- by a test that everything passes with itself

distinct-self_onto : {X : Type 0} (same : X → X → Bool) → ((x : X) → same x x ≡ true)
    → (seen xs : List X) → Distinct seen → Distinct (insert_all same seen xs)
distinct-self_onto same self seen [] d = d
distinct-self_onto same self seen (x ∷ xs) d = elim (cases_Bool (list_any (same x) seen)) [
  | inl t ↦ rw t (distinct-self_onto same self seen xs d)
  | inr f ↦ rw f (distinct-self_onto same self (seen ++ x ∷ []) xs
      (distinct-push seen x d (λ h. let t = any_in (same x) seen x h (self x) in absurd cc)))
]

pub distinct-self : {X : Type 0} (same : X → X → Bool) → ((x : X) → same x x ≡ true) → (xs : List X)
    → Distinct (insert_all same [] xs)
distinct-self same self xs = distinct-self_onto same self [] xs tt
