-- What marks are set by a list.
use Rattle.std.proofs.Common.{◌≡◌, ◌⊎◌, ℕ, ◌<◌, Bool, true, false, List, [], ◌∷◌, length, set, replicate, inl, inr, refl, ap, sym, ◌∙◌, arith, Option, Some, None, Contains}
use Rattle.std.proofs.lemmas.Bool.{cases_eq, cases_lt, false≢true}
use Rattle.std.proofs.lemmas.List.{length-set, length-replicate, get_or-replicate, get_or-set_same, get_or-set_other, get_or_past}
use Rattle.wl_lists.proofs.In.{Contains-none, Contains-here, Contains-there, Contains-cons_cases}
use Rattle.wl_reach.specs.Marks.{IsMarked}
use Rattle.wl_live.specs.Numbering.{with_mark}
use Rattle.wl_why.specs.Marked.{with_marks}

-- ---- one mark

pub marked_within : (marks : List Bool) (k : ℕ) → IsMarked marks k → k < length marks
marked_within marks k m = elim (cases_lt k (length marks)) [ inl lt ↦ lt | inr le ↦ absurd (false≢true (sym (get_or_past marks k false le) ∙ m)) ]

pub set_old : (marks : List Bool) (p k : ℕ) → IsMarked marks k → IsMarked (set marks p true) k
set_old marks p k m = elim (cases_eq k p) [ inl e ↦ rw e (get_or-set_same marks p true false (rw e at (marked_within marks k m))) | inr n ↦ get_or-set_other marks p k true false n ∙ m ]

pub set_cases : (marks : List Bool) (p k : ℕ) → IsMarked (set marks p true) k → IsMarked marks k ⊎ (p ≡ k)
set_cases marks p k m = elim (cases_eq k p) [ inl e ↦ inr (sym e) | inr n ↦ inl (sym (get_or-set_other marks p k true false n) ∙ m) ]

pub length-with_mark : (marks : List Bool) (o : Option ℕ) → length (with_mark marks o) ≡ length marks
length-with_mark marks None = refl
length-with_mark marks (Some p) = length-set marks p true

pub with_mark_old : (marks : List Bool) (o : Option ℕ) (k : ℕ) → IsMarked marks k → IsMarked (with_mark marks o) k
with_mark_old marks None k m = m
with_mark_old marks (Some p) k m = set_old marks p k m

pub with_mark_new : (marks : List Bool) (o : Option ℕ) (k : ℕ) → o ≡ Some k → k < length marks → IsMarked (with_mark marks o) k
with_mark_new marks o k e lt = rw e (get_or-set_same marks k true false lt)

pub with_mark_cases : (marks : List Bool) (o : Option ℕ) (k : ℕ) → IsMarked (with_mark marks o) k → IsMarked marks k ⊎ (o ≡ Some k)
with_mark_cases marks None k m = inl m
with_mark_cases marks (Some p) k m = elim (set_cases marks p k m) [ inl old ↦ inl old | inr e ↦ inr (ap Some e) ]

-- ---- a list of them

pub length-with_marks : {X : Type 0} (f : X → Option ℕ) (marks : List Bool) (xs : List X) → length (with_marks f marks xs) ≡ length marks
length-with_marks f marks [] = refl
length-with_marks f marks (x ∷ xs) = length-with_marks f (with_mark marks (f x)) xs ∙ length-with_mark marks (f x)

pub with_marks_old : {X : Type 0} (f : X → Option ℕ) (marks : List Bool) (xs : List X) (k : ℕ) → IsMarked marks k → IsMarked (with_marks f marks xs) k
with_marks_old f marks [] k m = m
with_marks_old f marks (x ∷ xs) k m = with_marks_old f (with_mark marks (f x)) xs k (with_mark_old marks (f x) k m)

pub with_marks_new : {X : Type 0} (f : X → Option ℕ) (marks : List Bool) (xs : List X) (k : ℕ) (x : X) → Contains xs x → f x ≡ Some k → k < length marks → IsMarked (with_marks f marks xs) k
with_marks_new f marks [] k x m e lt = absurd (Contains-none x m)
with_marks_new f marks (y ∷ xs) k x m e lt =
    elim (Contains-cons_cases y x xs m) [
      | inl here ↦ with_marks_old f (with_mark marks (f y)) xs k (with_mark_new marks (f y) k (ap f here ∙ e) lt)
      | inr there ↦ with_marks_new f (with_mark marks (f y)) xs k x there e (omega (arith, lt, length-with_mark marks (f y)))
    ]

pub with_marks_cases : {X : Type 0} (f : X → Option ℕ) (marks : List Bool) (xs : List X) (k : ℕ) → IsMarked (with_marks f marks xs) k → IsMarked marks k ⊎ ((x : X) × Contains xs x × (f x ≡ Some k))
with_marks_cases f marks [] k m = inl m
with_marks_cases f marks (x ∷ xs) k m =
    elim (with_marks_cases f (with_mark marks (f x)) xs k m) [
      | inl old ↦ elim (with_mark_cases marks (f x) k old) [ inl before ↦ inl before | inr e ↦ inr (x, Contains-here x xs, e) ]
      | inr there ↦ inr (there.0, Contains-there x there.0 xs there.1, there.2)
    ]

pub none_marked : (n k : ℕ) → IsMarked (replicate n false) k → ⊥
none_marked n k m =
    let lt : k < n = rw length-replicate at (marked_within (replicate n false) k m) in
    false≢true (sym (get_or-replicate n k false false lt) ∙ m)
