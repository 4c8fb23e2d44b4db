-- Where two listings differ.
use Rattle.std.specs.Prelude.{◌≡◌, ◌≢◌, ℕ, List, Option, Some, None, take, slice_get}
use Rattle.wl_check.specs.declared.difference.Difference.{Difference}
use Rattle.wl_check.specs.declared.line.Line.{Line}
use Rattle.wl_check.specs.Spelled.{IsListing}

-- some lines are spelled, one after the other
abbrev pub IsSomeListing : List ℕ → Type 0
IsSomeListing text = (lines : List Line) × IsListing lines text

-- The least place at which two lists of lines differ, and what stands there in each: nothing where
-- a list has ended.
pub record DiffersAt (found want : List Line) (n : ℕ) (here there : Option Line) : Type 0 where
  pub same : take n found ≡ take n want
  pub found_here : here ≡ slice_get found n
  pub want_there : there ≡ slice_get want n
  pub apart : here ≢ there

-- the lists are one, or this is where they differ first
abbrev pub IsDifference : List Line → List Line → Option Difference → Type 0
IsDifference found want None = found ≡ want
IsDifference found want (Some d) = DiffersAt found want d.line d.found d.want
