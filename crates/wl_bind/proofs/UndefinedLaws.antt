-- A set of objects and names as a list of names that nothing defines.
use Rattle.std.proofs.Common.{◌≡◌, ℕ, ◌&&◌, ◌||◌, ◌==◌, Bool, List, [], ◌∷◌, map, refl, ap, inl, inr, Bor}
use Rattle.std.specs.List.{list_any}
use Rattle.std.specs.Str.{bytes_eq}
use Rattle.std.proofs.lemmas.Bool.{cases_Bool}
use Rattle.std.proofs.lemmas.List.{map-append}
use Rattle.indexmap.specs.IndexSet.{insert_key}
use Rattle.wl_bind.specs.Undefined.{same_undefined}
use Rattle.wl_bind.specs.UndefinedSteps.{as_undefined}

-- the same object and the same name
abbrev same_keys : ℕ × Bor (List ℕ) → ℕ × Bor (List ℕ) → Bool
same_keys a b = (a.0 == b.0) && bytes_eq a.1.now b.1.now

any_as : (k : ℕ × Bor (List ℕ)) (keys : List (ℕ × Bor (List ℕ)))
    → list_any (same_undefined (as_undefined k)) (map as_undefined keys) ≡ list_any (same_keys k) keys
any_as k [] = refl
any_as k (x ∷ keys) = ap (λ b. same_keys k x || b) (any_as k keys)

-- one more key is one more name
pub insert_as : (k : ℕ × Bor (List ℕ)) (keys : List (ℕ × Bor (List ℕ)))
    → map as_undefined (insert_key same_keys keys k) ≡ insert_key same_undefined (map as_undefined keys) (as_undefined k)
insert_as k keys = elim (cases_Bool (list_any (same_keys k) keys)) [
  | inl t ↦ rw (any_as k keys, t) refl
  | inr f ↦ rw (any_as k keys, f) (map-append as_undefined keys (k ∷ []))
]
