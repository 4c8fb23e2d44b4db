-- Lists that stand in a space from a place on, and the parts of a space.
use Rattle.std.proofs.Common.{◌≡◌, ℕ, zero, suc, ◌+◌, List, [], ◌∷◌, ◌++◌, length, refl, sym, ap, subst, ◌∙◌, Some, slice_get, length-append, append_assoc}
use Rattle.wl_bind.specs.Parts.{joined, lengths_of, starts_from, total}
use Rattle.wl_lists.proofs.Places.{get_behind, get_in_front}

-- ---- a list stands in a space from a place on

pub record StandsFrom {X : Type 0} (space : List X) (n : ℕ) (xs : List X) : Type 0 where
  pub is : (k : ℕ) (x : X) → slice_get xs k ≡ Some x → slice_get space (n + k) ≡ Some x

-- a list follows what comes before it
pub stands_behind : {X : Type 0} (front xs behind : List X)
    → StandsFrom (front ++ (xs ++ behind)) (length front) xs
stands_behind front xs behind = record {
  is = λ k x e.
      get_behind front (xs ++ behind) k (length front + k) refl ∙ get_in_front xs behind k x e;
}

-- ---- parts

-- each part stands from its start on
pub part_stands_from : {X : Type 0} (front : List X) (parts : List (List X)) (rest : List X)
    (k : ℕ) (part : List X) (start : ℕ) → slice_get parts k ≡ Some part
    → slice_get (starts_from (length front) (lengths_of parts)) k ≡ Some start
    → StandsFrom (front ++ (joined parts ++ rest)) start part
part_stands_from front [] rest k part start p s = absurd (cc)
part_stands_from {X} front (xs ∷ parts) rest zero part start p s =
    let same : xs ≡ part = cc in
    let at : length front ≡ start = cc in
    rw (← same, ← at, append_assoc xs (joined parts) rest) (stands_behind front xs (joined parts ++ rest))
part_stands_from {X} front (xs ∷ parts) rest (suc k) part start p s =
    let len : length (front ++ xs) ≡ length front + length xs = length-append front xs in
    let more = part_stands_from (front ++ xs) parts rest k part start p (rw len s) in
    subst (λ (s : List X). StandsFrom s start part)
    (append_assoc front xs (joined parts ++ rest)
    ∙ ap (λ (ys : List X). front ++ ys) (sym (append_assoc xs (joined parts) rest))) more

pub part_stands : {X : Type 0} (parts : List (List X)) (rest : List X) (k : ℕ) (part : List X)
    (start : ℕ) → slice_get parts k ≡ Some part
    → slice_get (starts_from 0 (lengths_of parts)) k ≡ Some start
    → StandsFrom (joined parts ++ rest) start part
part_stands parts rest k part start p s = part_stands_from [] parts rest k part start p s

-- the parts have as many entries as their lengths together
pub joined_length : {X : Type 0} (parts : List (List X)) → length (joined parts) ≡ total (lengths_of parts)
joined_length [] = refl
joined_length (xs ∷ parts) = length-append xs (joined parts) ∙ ap (λ n. length xs + n) (joined_length parts)
