-- Stretches of addresses in a row.
use Rattle.std.specs.Prelude.{◌≡◌, ◌<◌, ◌≤◌, ℕ, ◌+◌, ◌%◌, List, [], ◌∷◌, Some, slice_get}

-- the place is the least multiple of the alignment that isn't below the end
pub record IsLeastAligned (alignment end place : ℕ) : Type 0 where
  pub multiple : place % alignment ≡ 0
  pub past : end ≤ place
  pub least : (other : ℕ) → other % alignment ≡ 0 → end ≤ other → place ≤ other

-- so many bytes from a place on, which has an alignment
pub record Span : Type 0 where
  pub alignment : ℕ
  pub size : ℕ
  pub place : ℕ

-- each stands at the least place for it after the one before, the first after a start; the last
-- leads to an end
abbrev pub AreInRow : ℕ → List Span → ℕ → Type 0
AreInRow start [] end = end ≡ start
AreInRow start (s ∷ rest) end =
    IsLeastAligned s.alignment start s.place × AreInRow (s.place + s.size) rest end

-- All stand at multiples of their alignments, between start and end, and each ends before the next
-- ones begin.
pub record IsApart (start : ℕ) (row : List Span) (end : ℕ) : Type 0 where
  pub aligned : (k : ℕ) (s : Span) → slice_get row k ≡ Some s → s.place % s.alignment ≡ 0
  pub behind : (k : ℕ) (s : Span) → slice_get row k ≡ Some s → start ≤ s.place
  pub before : (k : ℕ) (s : Span) → slice_get row k ≡ Some s → s.place + s.size ≤ end
  pub apart : (i k : ℕ) (s t : Span) → i < k → slice_get row i ≡ Some s → slice_get row k ≡ Some t
      → s.place + s.size ≤ t.place
