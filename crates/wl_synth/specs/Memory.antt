-- What a run of the body does that lays segments in shared memory.
use Rattle.std.specs.Prelude.{◌≡◌, ◌≢◌, ◌⊎◌, ◌+◌, ◌≤◌, ◌%◌, ℕ, true, List, [], ◌∷◌, length, slice_get, slice_set, Option, Some, None}
use Rattle.std.specs.List.{AllByRecursion}
use Rattle.wl_ops.specs.Standing.{window}
use Rattle.wl_synth.specs.declared.parts.PassiveSegmentCopy.{PassiveSegmentCopy}
use Rattle.wl_synth.specs.Machine.{World, State, Done, Waits, i32_at, overlay, left_bytes, Runs}

-- ---- segments and copies

-- the bytes of a segment; one that isn't there has none
abbrev pub bytes_of_segment : Option (Option (List ℕ)) → List ℕ
bytes_of_segment None = []
bytes_of_segment (Some segment) = left_bytes segment

abbrev pub segment_bytes : List (Option (List ℕ)) → ℕ → List ℕ
segment_bytes segments k = bytes_of_segment (slice_get segments k)

-- The segment of a copy is there, not dropped, and as long as the copy, which lies within so many
-- bytes.
pub record FitsSegment (segments : List (Option (List ℕ))) (size : ℕ) (c : PassiveSegmentCopy) :
    Type 0 where
  pub there :
      slice_get segments c.segment_index ≡ Some (Some (segment_bytes segments c.segment_index))
  pub as_long : length (segment_bytes segments c.segment_index) ≡ c.len
  pub within : c.offset + c.len ≤ size

-- bytes over which the segments of the copies are laid, in order
abbrev pub overlaid : List (Option (List ℕ)) → List PassiveSegmentCopy → List ℕ → List ℕ
overlaid segments [] bytes = bytes
overlaid segments (c ∷ cs) bytes =
    overlaid segments cs (overlay c.offset (segment_bytes segments c.segment_index) bytes)

-- the segments, of which those of the copies are dropped
abbrev pub without : List PassiveSegmentCopy → List (Option (List ℕ)) → List (Option (List ℕ))
without [] segments = segments
without (c ∷ cs) segments = without cs (slice_set segments c.segment_index None)

-- ---- stretches of bytes

-- n bytes at p and m bytes at q share none
abbrev pub ShareNoByte : ℕ → ℕ → ℕ → ℕ → Type 0
ShareNoByte p n q m = (p + n ≤ q) ⊎ (q + m ≤ p)

-- n bytes at p share none with a copy
abbrev pub AreClear : List PassiveSegmentCopy → ℕ → ℕ → Type 0
AreClear cs p n = AllByRecursion (λ c. ShareNoByte p n c.offset c.len) cs

-- no copy shares a byte with a later one
abbrev pub AreDisjoint : List PassiveSegmentCopy → Type 0
AreDisjoint [] = Unit {0}
AreDisjoint (c ∷ cs) = AreClear cs c.offset c.len × AreDisjoint cs

-- ---- the run

-- Memory is shared. The flag is a multiple of 4, and its word and the copies lie in memory and
-- share no byte. Each copy is as long as its segment.
pub record CanInitMemory (w : World) (s : State) (flag : ℕ) (copies : List PassiveSegmentCopy) :
    Type 0 where
  pub shared : w.is_shared ≡ true
  pub aligned : flag % 4 ≡ 0
  pub within : flag + 4 ≤ length s.memory
  pub segments : AllByRecursion (FitsSegment s.segments (length s.memory)) copies
  pub clear : AreClear copies flag 4
  pub disjoint : AreDisjoint copies

-- Each segment stands at its address, the flag is 2, and all other memory is as it was.
pub record AreLaid (s : State) (flag : ℕ) (copies : List PassiveSegmentCopy) (memory : List ℕ) :
    Type 0 where
  pub stand :
      AllByRecursion
      (λ c. window c.offset c.len memory ≡ segment_bytes s.segments c.segment_index) copies
  pub flag_set : i32_at flag memory ≡ 2
  pub others : (p n : ℕ) → ShareNoByte p n flag 4 → AreClear copies p n
      → window p n memory ≡ window p n s.memory
  pub same_length : length memory ≡ length s.memory

-- the function ends with this memory and without the segments, and all else is as it was
abbrev pub done_with : State → List PassiveSegmentCopy → List ℕ → State
done_with s copies memory = record s {
  stack = [];
  labels = [];
  memory = memory;
  segments = without copies s.segments;
  skipped = 0;
}

-- From flag 0 the segments are laid and dropped. From 1 the body waits, and from any other value it
-- drops the segments, with memory as it was.
pub record InitsMemory (w : World) (s : State) (flag : ℕ) (copies : List PassiveSegmentCopy)
    (body : List ℕ) : Type 0 where
  pub first : i32_at flag s.memory ≡ 0
      → (memory : List ℕ) × AreLaid s flag copies memory
      × Runs w 0 body s (Done (done_with s copies memory))
  pub meanwhile : i32_at flag s.memory ≡ 1
      → (t : State) × (t.memory ≡ s.memory) × (t.segments ≡ s.segments) × Runs w 0 body s (Waits t)
  pub later : i32_at flag s.memory ≢ 0 → i32_at flag s.memory ≢ 1
      → Runs w 0 body s (Done (done_with s copies s.memory))
