-- Lists of what names stand for.
use Rattle.std.proofs.Common.{◌≡◌, Bool, not, if◌then◌else◌, List, [], ◌∷◌, refl, ap, inl, inr, Option, Some, None, filter}
use Rattle.std.specs.List.{filter_map, cons_option}
use Rattle.std.specs.Option.{option_and_then}
use Rattle.std.proofs.lemmas.Bool.{cases_Bool}

one_apart : {Y : Type 0} (test : Y → Bool) (o : Option Y) (ys zs : List Y)
    → filter (λ y. not (test y)) ys ≡ zs
    → filter (λ y. not (test y)) (cons_option o ys)
    ≡ cons_option (option_and_then (λ y. if test y then None else Some y) o) zs
one_apart test None ys zs e = e
one_apart test (Some y) ys zs e = elim (cases_Bool (test y)) [
  | inl t ↦ rw t e
  | inr f ↦ rw f (ap (λ l. y ∷ l) e)
]

-- what is left out of a list is left out where it is given
pub all_apart : {X Y : Type 0} (test : Y → Bool) (f : X → Option Y) (xs : List X)
    → filter (λ y. not (test y)) (filter_map f xs)
    ≡ filter_map (λ x. option_and_then (λ y. if test y then None else Some y) (f x)) xs
all_apart test f [] = refl
all_apart test f (x ∷ xs) = one_apart test (f x) (filter_map f xs) _ (all_apart test f xs)
