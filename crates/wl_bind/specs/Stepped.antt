-- Two lists side by side: each of the second, with what the one at its place in the first makes of
-- it.
use Rattle.std.specs.Prelude.{ℕ, zero, suc, ◌+◌, List, [], ◌∷◌}

module _ {X Y : Type 0} (step : ℕ → X → Y → Y) where
  -- the first of the first list has that number; what has no counterpart stays
  abbrev pub stepped : ℕ → List X → List Y → List Y
  stepped n [] ys = ys
  stepped n (x ∷ xs) [] = []
  stepped n (x ∷ xs) (y ∷ ys) = step n x y ∷ stepped (n + 1) xs ys

  -- the same after so many of the second, which stay
  abbrev pub stepped_behind : ℕ → ℕ → List X → List Y → List Y
  stepped_behind zero n xs ys = stepped n xs ys
  stepped_behind (suc k) n xs [] = []
  stepped_behind (suc k) n xs (y ∷ ys) = y ∷ stepped_behind k n xs ys

  -- the second, of which the one at that place is stepped by this one
  abbrev pub step_at : ℕ → ℕ → X → List Y → List Y
  step_at place n x [] = []
  step_at zero n x (y ∷ ys) = step n x y ∷ ys
  step_at (suc place) n x (y ∷ ys) = y ∷ step_at place n x ys
