-- Marks, as bits in words of 64.
use Rattle.std.specs.Prelude.{◌≡◌, ℕ, ◌*◌, ◌/◌, ◌%◌, ◌<◌, ◌≤◌, ◌==◌, Bool, true, false, List, length, map, take, count_by, slice_index, slice_index_or}
use Rattle.std.specs.Int.{bit_at}
use Rattle.std.specs.List.{range_with_len}

-- the mark of that number is set
abbrev pub IsMarked : List Bool → ℕ → Type 0
IsMarked marks place = slice_index_or marks place false ≡ true

-- how many marks are set
abbrev pub count_set : List Bool → ℕ
count_set marks = count_by (λ (is_set : Bool). is_set) marks

-- how many of the marks before that place are set
abbrev pub count_before : List Bool → ℕ → ℕ
count_before marks place = count_set (take place marks)

-- the bit of that number is set
abbrev pub bit_of : List ℕ → ℕ → Bool
bit_of words i = bit_at (slice_index_or words (i / 64) 0) (i % 64) == 1

-- so many bits, from the first one on
unfoldable pub unpacked : ℕ → List ℕ → List Bool
unpacked n words = map (bit_of words) (range_with_len 0 n)

-- how many of the marks before each word are set
pub record IsRankTable (marks : List Bool) (before : List ℕ) : Type 0 where
  pub size : length marks ≤ 64 * length before
  pub at : (word : ℕ) → word < length before
      → slice_index before word ≡ count_before marks (word * 64)
