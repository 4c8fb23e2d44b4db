-- What things are after replacements.
use Rattle.std.proofs.Common.{◌≡◌, ◌<◌, ℕ, zero, suc, true, false, ◌==◌, if◌then◌else◌, List, [], ◌∷◌, ◌++◌, length, set, refl, sym, ap, ◌∙◌, inl, inr, Option, Some, None, slice_get, arith, eqb-true, eq-eqb}
use Rattle.std.specs.Option.{option_or}
use Rattle.std.proofs.lemmas.Bool.{cases_Bool}
use Rattle.std.proofs.lemmas.List.{length-set}
use Rattle.wl_session.specs.After.{Replacement, replaced, after, last_at}

pub list_more : {X : Type 0} (xs : List X) (done more : List (Replacement X)) → after xs (done ++ more) ≡ after (after xs done) more
list_more xs [] more = refl
list_more xs (r ∷ done) more = list_more (replaced xs r) done more

pub as_many : {X : Type 0} (xs : List X) (done : List (Replacement X)) → length (after xs done) ≡ length xs
as_many xs [] = refl
as_many xs (r ∷ done) = as_many (replaced xs r) done ∙ length-set xs r.place r.item

-- what stands in a place after one was replaced
get_same : {X : Type 0} (xs : List X) (k : ℕ) (item : X) → k < length xs → slice_get (set xs k item) k ≡ Some item
get_same [] k item lt = absurd (omega (arith, lt))
get_same (x ∷ xs) zero item lt = refl
get_same (x ∷ xs) (suc k) item lt = get_same xs k item (omega (arith, lt))

get_other : {X : Type 0} (xs : List X) (place k : ℕ) (item : X) → (place ≡ k → ⊥) → slice_get (set xs place item) k ≡ slice_get xs k
get_other [] place k item apart = refl
get_other (x ∷ xs) zero zero item apart = absurd (apart refl)
get_other (x ∷ xs) zero (suc k) item apart = refl
get_other (x ∷ xs) (suc place) zero item apart = refl
get_other (x ∷ xs) (suc place) (suc k) item apart = get_other xs place k item (λ same. apart (ap suc same))

set_get : {X : Type 0} (xs : List X) (place : ℕ) (item : X) (k : ℕ) → k < length xs → slice_get (set xs place item) k ≡ option_or (if place == k then Some item else None) (slice_get xs k)
set_get xs place item k lt = elim (cases_Bool (place == k)) [
  | inl t ↦ (let same : place ≡ k = eqb-true place k t in rw (t, same) (get_same xs k item lt))
  | inr f ↦ rw f (get_other xs place k item (λ same. let t : (place == k) ≡ true = eq-eqb place k same in let no : true ≡ false = sym t ∙ f in absurd cc))
]

or_assoc : {X : Type 0} (a b c : Option X) → option_or a (option_or b c) ≡ option_or (option_or a b) c
or_assoc None b c = refl
or_assoc (Some x) b c = refl

pub each : {X : Type 0} (xs : List X) (done : List (Replacement X)) (k : ℕ) → k < length xs → slice_get (after xs done) k ≡ option_or (last_at k done) (slice_get xs k)
each xs [] k lt = refl
each xs (r ∷ done) k lt =
    let len : length (set xs r.place r.item) ≡ length xs = length-set xs r.place r.item in
    let here : option_or (last_at k done) (slice_get (set xs r.place r.item) k) ≡ option_or (last_at k done) (option_or (if r.place == k then Some r.item else None) (slice_get xs k)) = ap (option_or (last_at k done)) (set_get xs r.place r.item k lt) in
    each (replaced xs r) done k (omega (arith, lt, len)) ∙ (here ∙ or_assoc (last_at k done) (if r.place == k then Some r.item else None) (slice_get xs k))
