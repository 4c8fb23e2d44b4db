-- Lists in which nothing stands twice, and parts of a space.
use Rattle.std.proofs.Common.{◌≡◌, ◌∙◌, ℕ, ◌+◌, ◌≤◌, Bool, true, false, List, [], ◌∷◌, ◌++◌, sym, ap, subst, arith, inl, inr, filter, map, if◌then◌else◌}
use Rattle.std.proofs.lemmas.Bool.{cases_Bool}
use Rattle.std.proofs.lemmas.List.{append-nil, append_assoc}
use Rattle.wl_linking.specs.Object.{Object}
use Rattle.wl_bind.specs.Parts.{by_object, joined}
use Rattle.wl_lists.proofs.In.{IsIn, in_split, in_map}
use Rattle.wl_lists.proofs.Once.{Distinct, distinct-append, distinct-map}
use Rattle.wl_lists.proofs.Rows.{given_by}

-- ---- what stands in a list

pub passes : {X : Type 0} (p : X → Bool) (xs : List X) (z : X) → IsIn (filter p xs) z → p z ≡ true
passes p [] z h = absurd h
passes {X} p (x ∷ xs) z h = elim (cases_Bool (p x)) [
  | inl t ↦ elim (rw t at h) [
    | inl e ↦ subst (λ (y : X). p y ≡ true) e t
    | inr r ↦ passes p xs z r
  ]
  | inr f ↦ passes p xs z (rw f at h)
]

-- ---- object by object

-- all that an object gives is of that object
abbrev pub IsOfObject : {X : Type 0} → (X → ℕ) → (ℕ → Object → List X) → Type 0
IsOfObject {X} key f = (i : ℕ) (o : Object) (z : X) → IsIn (f i o) z → key z ≡ i

by_object_least : {X : Type 0} (key : X → ℕ) (f : ℕ → Object → List X) → IsOfObject key f → (i : ℕ)
    (objects : List Object) (z : X) → IsIn (by_object f i objects) z → i ≤ key z
by_object_least key f of i [] z h = absurd h
by_object_least key f of i (o ∷ objects) z h = elim (in_split (f i o) (by_object f (i + 1) objects) z h) [
  | inl l ↦ (let e : key z ≡ i = of i o z l in omega (arith, e))
  | inr r ↦ (let m : i + 1 ≤ key z = by_object_least key f of (i + 1) objects z r in omega (arith, m))
]

pub distinct-by_object : {X : Type 0} (key : X → ℕ) (f : ℕ → Object → List X) → IsOfObject key f
    → ((i : ℕ) (o : Object) → Distinct (f i o)) → (i : ℕ) (objects : List Object) → Distinct (by_object f i objects)
distinct-by_object key f of each i [] = tt
distinct-by_object key f of each i (o ∷ objects) =
    distinct-append (f i o) (by_object f (i + 1) objects) (each i o) (distinct-by_object key f of each (i + 1) objects)
    (λ z l r. let e : key z ≡ i = of i o z l in
    let m : i + 1 ≤ key z = by_object_least key f of (i + 1) objects z r in absurd (omega (arith, e, m)))

-- ---- parts of a space

-- a part: nothing stands twice in it, and all that stands in it is of one sort
pub record IsPart {X : Type 0} (sort : X → ℕ) (n : ℕ) (part : List X) : Type 0 where
  pub distinct : Distinct part
  pub sorts : (z : X) → IsIn part z → sort z ≡ n

-- parts of sorts in a row, the first of which is n
abbrev pub AreParts : {X : Type 0} → (X → ℕ) → ℕ → List (List X) → Type 0
AreParts sort n [] = Unit {0}
AreParts sort n (part ∷ parts) = IsPart sort n part × AreParts sort (n + 1) parts

-- what stands in parts is of one of their sorts
sort_within : {X : Type 0} (sort : X → ℕ) (n : ℕ) (parts : List (List X)) (z : X) → AreParts sort n parts
    → IsIn (joined parts) z → n ≤ sort z
sort_within sort n [] z a h = absurd h
sort_within sort n (part ∷ parts) z a h = elim (in_split part (joined parts) z h) [
  | inl l ↦ (let e : sort z ≡ n = a.0.sorts z l in omega (arith, e))
  | inr r ↦ (let m : n + 1 ≤ sort z = sort_within sort (n + 1) parts z a.1 r in omega (arith, m))
]

pub distinct-joined : {X : Type 0} (sort : X → ℕ) (n : ℕ) (parts : List (List X)) → AreParts sort n parts
    → Distinct (joined parts)
distinct-joined sort n [] a = tt
distinct-joined sort n (part ∷ parts) a =
    distinct-append part (joined parts) a.0.distinct (distinct-joined sort (n + 1) parts a.1)
    (λ z l r. let e : sort z ≡ n = a.0.sorts z l in
    let m : n + 1 ≤ sort z = sort_within sort (n + 1) parts z a.1 r in absurd (omega (arith, e, m)))

-- a part of entries made from things in a list
pub part_of : {X Y : Type 0} (sort : Y → ℕ) (n : ℕ) (f : X → Y) → ((a b : X) → f a ≡ f b → a ≡ b)
    → ((a : X) → sort (f a) ≡ n) → (xs : List X) → Distinct xs → IsPart sort n (map f xs)
part_of {X} {Y} sort n f same all xs d = record {
  distinct = distinct-map f same xs d;
  sorts = λ z h. let c = in_map f xs z h in let P : Y → Type 0 = λ y. sort y ≡ n in subst P c.to (all c.from);
}

-- a part of one entry, where it exists
pub part_if : {Y : Type 0} (sort : Y → ℕ) (n : ℕ) (test : Bool) (y : Y) → sort y ≡ n
    → IsPart sort n (if test then y ∷ [] else [])
part_if sort n true y e = record {
  distinct = (λ h. h, tt);
  sorts = λ z h. elim h [ inl s ↦ rw (← s) e | inr r ↦ absurd r ];
}
part_if sort n false y e = record { distinct = tt; sorts = λ z h. absurd h }

-- a part of what objects give
pub part_by_object : {X Y : Type 0} (sort : Y → ℕ) (n : ℕ) (key : Y → ℕ) (entry : ℕ → X → Y) (f : ℕ → Object → List X)
    → ((i : ℕ) (a b : X) → entry i a ≡ entry i b → a ≡ b) → ((i : ℕ) (x : X) → key (entry i x) ≡ i)
    → ((i : ℕ) (x : X) → sort (entry i x) ≡ n) → ((i : ℕ) (o : Object) → Distinct (f i o))
    → (objects : List Object) → IsPart sort n (by_object (λ i o. map (entry i) (f i o)) 0 objects)
part_by_object {X} {Y} sort n key entry f same of all each objects = record {
  distinct = distinct-by_object key (λ i o. map (entry i) (f i o))
      (λ i o z h. let c = in_map (entry i) (f i o) z h in subst (λ (y : Y). key y ≡ i) c.to (of i c.from))
      (λ i o. distinct-map (entry i) (same i) (f i o) (each i o)) 0 objects;
  sorts = λ z h. let g = given_by (λ i o. map (entry i) (f i o)) 0 objects z h in
      let c = in_map (entry (0 + g.place)) (f (0 + g.place) g.object) z g.there in
      subst (λ (y : Y). sort y ≡ n) c.to (all (0 + g.place) c.from);
}

-- ---- the parts with what comes after them

pub joined_end : {X : Type 0} (parts : List (List X)) (rest : List X) → joined (parts ++ rest ∷ []) ≡ joined parts ++ rest
joined_end [] rest = append-nil rest
joined_end {X} (xs ∷ parts) rest =
    ap (λ (ys : List X). xs ++ ys) (joined_end parts rest) ∙ sym (append_assoc xs (joined parts) rest)
