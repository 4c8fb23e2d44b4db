-- Marks that are set one after the other.
use Rattle.std.specs.Prelude.{ℕ, Bool, List, [], ◌∷◌, Option}
use Rattle.wl_live.specs.Numbering.{with_mark}

-- the marks, with that of the number set that each of these things has, if it has one
abbrev pub with_marks : {X : Type 0} → (X → Option ℕ) → List Bool → List X → List Bool
with_marks number_of marks [] = marks
with_marks number_of marks (x ∷ xs) = with_marks number_of (with_mark marks (number_of x)) xs
