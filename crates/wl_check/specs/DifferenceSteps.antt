-- Two listings that are compared line by line.
use Rattle.std.specs.Prelude.{◌≡◌, ◌⊎◌, ℕ, ◌+◌, ◌≤◌, List, [], ◌++◌, length, None}
use Rattle.wl_check.specs.Reading.{strip}
use Rattle.wl_check.specs.Spelled.{first_stretch, IsListing}
use Rattle.wl_check.specs.declared.line.Line.{Line}

-- both begin with so many equal lines, and these listings are left
pub record AreAlike (found want : List ℕ) (n : ℕ) (found_left want_left : List ℕ) : Type 0 where
  pub front : List Line
  pub ks : List Line
  pub ls : List Line
  pub count : length front ≡ n
  pub found_is : IsListing (front ++ ks) found
  pub want_is : IsListing (front ++ ls) want
  pub found_rest : IsListing ks found_left
  pub want_rest : IsListing ls want_left
  pub enough : n + length found_left ≤ length found

-- the first has ended, or what begins it doesn't begin the second
abbrev pub StandApart : List ℕ → List ℕ → Type 0
StandApart found want = (found ≡ []) ⊎ (strip (first_stretch found) want ≡ None)
