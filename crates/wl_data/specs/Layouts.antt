-- Where segments lie.
use Rattle.std.specs.Prelude.{◌≡◌, ◌⊎◌, ◌≤◌, ◌<◌, ℕ, ◌^◌, ◌==◌, ◌&&◌, ◌||◌, not, Bool, true, false, if◌then◌else◌, List, [], ◌∷◌, ◌++◌, length, map, filter, Option, Some, None, ⊤}
use Rattle.std.proofs.Common.{inl, inr}
use Rattle.std.specs.Borrow.{MutBor}
use Rattle.wl_linking.specs.declared.error.LinkError.{LinkError}
use Rattle.wl_linking.specs.declared.error.LinkError.TheVariants.{TooLarge}
use Rattle.wl_linking.specs.declared.error.Quantity.TheVariants.{Address}
use Rattle.wl_data.specs.declared.pass.Frontier.{Frontier}
use Rattle.wl_data.specs.declared.pass.Pass.{Pass}
use Rattle.wl_data.specs.Segments.{KeptData, SegmentLayout}
use Rattle.wl_data.specs.Spans.{Span, AreInRow}
use Rattle.wl_data.specs.Sizes.{Destination, HasSegmentSize}

-- a segment can be placed: it has an alignment, and the size of an object bounds it
pub record CanBePlaced (s : KeptData) : Type 0 where
  pub aligned : 0 < s.alignment
  pub small : length s.payload ≤ 2 ^ 30

-- ---- which segments go where

-- those that a pass is for
abbrev pub is_chosen : Pass → KeptData → Bool
is_chosen pass s = if pass.tls then s.tls else not s.tls

-- with a block of each thread's own data, all data of threads goes there
abbrev pub goes_to_block : Pass → KeptData → Bool
goes_to_block pass s = pass.has_block && s.tls

-- the other active ones go into the memory
abbrev pub goes_to_memory : Pass → KeptData → Bool
goes_to_memory pass s = not (goes_to_block pass s) && s.active

-- its alignment where each thread has its own of it, else 1
abbrev pub tls_alignment_of : KeptData → ℕ
tls_alignment_of s = if s.tls then s.alignment else 1

-- in a block an empty segment stands at the end before it, as it is
abbrev pub block_alignment : KeptData → ℕ
block_alignment s = if length s.payload == 0 then 1 else s.alignment

-- a segment at a place
pub record PlacedData : Type 0 where
  pub segment : KeptData
  pub place : ℕ

-- it as a stretch, with that alignment
abbrev pub span_of : (KeptData → ℕ) → PlacedData → Span
span_of alignment s =
    record { alignment = alignment s.segment; size = length s.segment.payload; place = s.place }

-- those of the segments that pass the test, with these alignments
abbrev pub spans_of : (KeptData → Bool) → (KeptData → ℕ) → List PlacedData → List Span
spans_of test alignment placed = map (span_of alignment) (filter (λ s. test s.segment) placed)

-- those in the memory
abbrev pub memory_spans : Pass → List PlacedData → List Span
memory_spans pass = spans_of (goes_to_memory pass) (λ s. s.alignment)

-- those in the block
abbrev pub block_spans : Pass → List PlacedData → List Span
block_spans pass = spans_of (goes_to_block pass) block_alignment

-- ---- a pass over segments

-- The chosen ones stand in order, those in the memory in a row there, and those in the block in a
-- row there, both from frontier to frontier.
pub record ArePlaced (pass : Pass) (segments : List KeptData) (start end : Frontier)
    (placed : List PlacedData) : Type 0 where
  pub chosen : map (λ (s : PlacedData). s.segment) placed ≡ filter (is_chosen pass) segments
  pub memory : AreInRow start.memory (memory_spans pass placed) end.memory
  pub block : AreInRow start.block (block_spans pass placed) end.block

-- one segment stands, from frontier to frontier
pub record StandsThere (pass : Pass) (start end : Frontier) (s : PlacedData) : Type 0 where
  pub memory : AreInRow start.memory (memory_spans pass (s ∷ [])) end.memory
  pub block : AreInRow start.block (block_spans pass (s ∷ [])) end.block

-- the frontier is past the last address
abbrev pub IsPastEnd : Frontier → Type 0
IsPastEnd frontier = (2 ^ 32 ≤ frontier.memory) ⊎ (2 ^ 32 ≤ frontier.block)

-- the frontier after that segment is past the last address
pub record PassesAt (pass : Pass) (segment : KeptData) (start : Frontier) : Type 0 where
  pub place : ℕ
  pub end : Frontier
  pub stands : StandsThere pass start end (record { segment = segment; place = place })
  pub past : IsPastEnd end

-- ---- what the output makes of a segment

-- all threads have it in common, and it has bytes that go into the memory
abbrev pub is_common : KeptData → Bool
is_common s = (s.active && not s.tls) && not (length s.payload == 0)

-- with shared memory the first thread copies those
abbrev pub is_shared_init : Pass → KeptData → Bool
is_shared_init pass s = pass.shared_init && is_common s

-- it goes nowhere by itself
abbrev pub is_passive : Pass → KeptData → Bool
is_passive pass s = not (goes_to_memory pass s) || is_shared_init pass s

-- where the segment goes, 0 where it has no address
abbrev pub output_offset : Pass → PlacedData → ℕ
output_offset pass s =
    if goes_to_memory pass s.segment || goes_to_block pass s.segment then s.place else 0

-- where a segment of the output goes
abbrev pub destination_of : SegmentLayout → Destination
destination_of l =
    record { passive = l.passive; memory = l.output_memory_index; offset = l.output_memory_offset }

-- what the output makes of a segment at a place
pub record IsLayoutOf (pass : Pass) (s : PlacedData) (l : SegmentLayout) : Type 0 where
  pub segment_index : l.segment_index ≡ s.segment.original
  pub payload : l.payload ≡ s.segment.payload
  pub payload_start : l.payload_start ≡ s.segment.payload_start
  pub output_memory_index : l.output_memory_index ≡ 0
  pub output_memory_offset : l.output_memory_offset ≡ output_offset pass s
  pub encoded_output_size :
      HasSegmentSize (destination_of l) (length l.payload) l.encoded_output_size
  pub passive : l.passive ≡ is_passive pass s.segment
  pub tls_template : l.tls_template ≡ goes_to_block pass s.segment
  pub shared_init : l.shared_init ≡ is_shared_init pass s.segment

-- each of the second list is that of the first at its place
abbrev pub AreLayoutsOf : Pass → List PlacedData → List SegmentLayout → Type 0
AreLayoutsOf pass [] [] = ⊤
AreLayoutsOf pass (s ∷ placed) (l ∷ layouts) =
    IsLayoutOf pass s l × AreLayoutsOf pass placed layouts
AreLayoutsOf pass _ _ = ⊥

-- what a pass makes of segments, from frontier to frontier
pub record AreLaidOut (pass : Pass) (segments : List KeptData) (start end : Frontier)
    (layouts : List SegmentLayout) : Type 0 where
  pub placed : List PlacedData
  pub stand : ArePlaced pass segments start end placed
  pub laid : AreLayoutsOf pass placed layouts

-- the list grows by layouts that are so
abbrev pub GrowsBy : (List SegmentLayout → Type 0) → List SegmentLayout → List SegmentLayout
    → Type 0
GrowsBy Laid old new = (more : List SegmentLayout) × Laid more × (new ≡ old ++ more)

-- what the output makes of one segment, which then stands
pub record IsLaidOne (pass : Pass) (segment : KeptData) (start end : Frontier) (l : SegmentLayout)
    : Type 0 where
  pub place : ℕ
  pub stands : StandsThere pass start end (record { segment = segment; place = place })
  pub laid : IsLayoutOf pass (record { segment = segment; place = place }) l

-- ---- refusals

-- the frontier comes to pass the last address
pub record PassesRoom (pass : Pass) (segments : List KeptData) (start : Frontier) : Type 0 where
  pub placed : List PlacedData
  pub end : Frontier
  pub stand : ArePlaced pass segments start end placed
  pub past : IsPastEnd end

-- the frontier would come to pass the last address
abbrev pub HasNoRoom : Pass → List KeptData → Frontier → LinkError → Type 0
HasNoRoom pass segments start e = (e ≡ TooLarge Address) × PassesRoom pass segments start

-- the same of one segment
abbrev pub HasNoRoomAt : Pass → KeptData → Frontier → LinkError → Type 0
HasNoRoomAt pass segment start e = (e ≡ TooLarge Address) × PassesAt pass segment start

-- ---- cursors that are handed in

-- the end of the block as a call leaves it
abbrev pub block_left : Unit {0} ⊎ ((MutBor ℕ × Unit {0}) ⊎ ⊥) → ℕ
block_left (inr (inl left)) = left.0.now
block_left _ = 0

-- the end of the block, 0 where there is none
abbrev pub block_end : Option (MutBor ℕ) → ℕ
block_end None = 0
block_end (Some cursor) = cursor.now

-- there is a block
abbrev pub has_cursor : Option (MutBor ℕ) → Bool
has_cursor None = false
has_cursor (Some cursor) = true

-- the frontier of the cursors as they are handed in
abbrev pub frontier_of : ℕ → Option (MutBor ℕ) → Frontier
frontier_of memory tls_cursor = record { memory = memory; block = block_end tls_cursor }

-- the frontier of the cursors as a call leaves them
abbrev pub frontier_left : ℕ → Unit {0} ⊎ ((MutBor ℕ × Unit {0}) ⊎ ⊥) → Frontier
frontier_left memory tls_cursor = record { memory = memory; block = block_left tls_cursor }

-- the pass that a call asks for
abbrev pub pass_of : Bool → Bool → Option (MutBor ℕ) → Pass
pass_of want_tls shared_init tls_cursor =
    record { tls = want_tls; shared_init = shared_init; has_block = has_cursor tls_cursor }
