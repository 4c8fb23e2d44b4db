-- Lists in which nothing stands twice.
use Rattle.std.proofs.Common.{◌≡◌, ℕ, zero, suc, ◌+◌, ◌≤◌, Bool, true, false, List, [], ◌∷◌, ◌++◌, refl, sym, ap, subst, arith, inl, inr, Some, slice_get, filter, map, if◌then◌else◌}
use Rattle.std.specs.List.{range_with_len}
use Rattle.std.proofs.lemmas.Bool.{cases_Bool}
use Rattle.std.proofs.lemmas.Option.{same_Some}
use Rattle.wl_lists.proofs.In.{IsIn, in_at, in_split, in_filter, in_map, in_map_filter}

-- nothing stands twice
abbrev pub Distinct : {X : Type 0} → List X → Type 0
Distinct [] = Unit {0}
Distinct (x ∷ xs) = (IsIn xs x → ⊥) × Distinct xs

-- two places of one thing are one
pub once_from : {X : Type 0} (xs : List X) → Distinct xs
    → (i k : ℕ) (z : X) → slice_get xs i ≡ Some z → slice_get xs k ≡ Some z → i ≡ k
once_from [] d i k z a b = absurd cc
once_from (x ∷ xs) d zero zero z a b = refl
once_from (x ∷ xs) d zero (suc k) z a b =
    absurd (d.0 (let e : x ≡ z = same_Some x z a in rw e (in_at xs k z b)))
once_from (x ∷ xs) d (suc i) zero z a b =
    absurd (d.0 (let e : x ≡ z = same_Some x z b in rw e (in_at xs i z a)))
once_from (x ∷ xs) d (suc i) (suc k) z a b = ap suc (once_from xs d.1 i k z a b)

pub distinct-append : {X : Type 0} (xs ys : List X) → Distinct xs → Distinct ys
    → ((z : X) → IsIn xs z → IsIn ys z → ⊥) → Distinct (xs ++ ys)
distinct-append [] ys a b apart = b
distinct-append (x ∷ xs) ys a b apart = (
  λ h. elim (in_split xs ys x h) [ inl l ↦ a.0 l | inr r ↦ apart x (inl refl) r ],
  distinct-append xs ys a.1 b (λ z l r. apart z (inr l) r),
)

pub distinct-push : {X : Type 0} (xs : List X) (x : X) → Distinct xs → (IsIn xs x → ⊥)
    → Distinct (xs ++ x ∷ [])
distinct-push {X} xs x d out =
    distinct-append xs (x ∷ []) d (λ h. h, tt)
    (λ z l r. elim r [
      | inl e ↦ (let P : X → Type 0 = λ w. IsIn xs w in out (subst P (sym e) l))
      | inr n ↦ n
    ])

pub distinct-map_filter : {X Y : Type 0} (f : X → Y) (p : X → Bool) (xs : List X)
    → Distinct (map f xs) → Distinct (map f (filter p xs))
distinct-map_filter f p [] d = d
distinct-map_filter f p (x ∷ xs) d = elim (cases_Bool (p x)) [
  | inl t ↦ rw t (λ h. d.0 (in_map_filter f p xs (f x) h), distinct-map_filter f p xs d.1)
  | inr g ↦ rw g (distinct-map_filter f p xs d.1)
]

pub distinct-filter : {X : Type 0} (p : X → Bool) (xs : List X) → Distinct xs
    → Distinct (filter p xs)
distinct-filter p [] d = d
distinct-filter p (x ∷ xs) d = elim (cases_Bool (p x)) [
  | inl t ↦ rw t (λ h. d.0 (in_filter p xs x h), distinct-filter p xs d.1)
  | inr g ↦ rw g (distinct-filter p xs d.1)
]

pub distinct-map : {X Y : Type 0} (f : X → Y) → ((a b : X) → f a ≡ f b → a ≡ b) → (xs : List X)
    → Distinct xs → Distinct (map f xs)
distinct-map f same [] d = d
distinct-map {X} f same (x ∷ xs) d = (
  λ h. let c = in_map f xs (f x) h in d.0 (let e : c.from ≡ x = same c.from x c.to in
      let P : X → Type 0 = λ w. IsIn xs w in subst P e c.there),
  distinct-map f same xs d.1,
)

pub distinct_if : {X : Type 0} (b : Bool) (xs : List X) → Distinct xs
    → Distinct (if b then xs else [])
distinct_if true xs d = d
distinct_if false xs d = tt

-- ---- numbers

range_least : (a n z : ℕ) → IsIn (range_with_len a n) z → a ≤ z
range_least a zero z h = absurd h
range_least a (suc n) z h = elim h [
  | inl e ↦ omega (arith, e)
  | inr r ↦ (let m : a + 1 ≤ z = range_least (a + 1) n z r in omega (arith, m))
]

pub distinct-range : (a n : ℕ) → Distinct (range_with_len a n)
distinct-range a zero = tt
distinct-range a (suc n) = (
  λ h. let m : a + 1 ≤ a = range_least (a + 1) n a h in absurd (omega (arith, m)),
  distinct-range (a + 1) n,
)
