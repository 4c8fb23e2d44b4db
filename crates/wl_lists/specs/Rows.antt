-- What lists have for each thing of a list, which counts from a number.
use Rattle.std.specs.Prelude.{ℕ, ◌+◌, List, [], ◌∷◌, ◌++◌, ⊤}

-- each row is what it is to be of its thing, the first of which has that number
abbrev pub AreRows : {O X : Type 0} → (ℕ → O → X → Type 0) → ℕ → List O → List X → Type 0
AreRows IsRow number [] [] = ⊤
AreRows IsRow number (o ∷ os) (row ∷ rows) = IsRow number o row × AreRows IsRow (number + 1) os rows
AreRows IsRow number _ _ = ⊥

-- what each of these gives, one after the other, the first of which has that number
abbrev pub by_number : {O X : Type 0} → (ℕ → O → List X) → ℕ → List O → List X
by_number f number [] = []
by_number f number (o ∷ os) = f number o ++ by_number f (number + 1) os
