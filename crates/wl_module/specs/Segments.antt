-- The data section (core specification, "Data Section").
use Rattle.std.specs.Prelude.{◌≡◌, ℕ, List, [], ◌∷◌, ◌++◌, length, map, Option, Some, None, Result}
use Rattle.wl_bytes.specs.Cursor.{Cursor}
use Rattle.wl_bytes.specs.Leb.{IsU32}
use Rattle.wl_bytes.specs.Grammar.{Then, ThenFault, then_at, map_at}
use Rattle.wl_module.specs.declared.segments.DataKind.{DataKind}
use Rattle.wl_module.specs.declared.segments.DataKind.TheVariants.{Passive, Active}
use Rattle.wl_module.specs.declared.segments.SegmentFlag.{SegmentFlag}
use Rattle.wl_module.specs.declared.segments.SegmentFlag.TheVariants.{InMemory, InNoMemory, InMemoryOf}
use Rattle.wl_bytes.specs.declared.read_error.Why.TheVariants.{BadByte}
use Rattle.wl_bytes.specs.declared.read_error.ReadError.{ReadError}
use Rattle.wl_bytes.specs.declared.read_error.ReadError.TheVariants.{Malformed}
use Rattle.wl_bytes.specs.Lists.{NumberFault, number_at, IsCoded, CodedFault, coded_at, Listed, ListedFault, list_at, Whole, WholeFault, whole_of, SeenAs, seen_of}
use Rattle.wl_module.specs.Bodies.{BodyFault}
use Rattle.wl_bytes.specs.Lists.{stretch_at}
use Rattle.wl_bytes.specs.Checks.{Seen, IsNothing, NoFault, nothing_at, measured_at}
use Rattle.wl_module.specs.Constants.{IsExpression, ExpressionFault, expression_at}

-- ---- flags

-- the first byte of a segment
abbrev pub segment_code : SegmentFlag → ℕ
segment_code InMemory = 0
segment_code InNoMemory = 1
segment_code InMemoryOf = 2

-- there is no byte, or another one
abbrev pub SegmentFlagFault : ReadError → Cursor → Type 0
SegmentFlagFault = CodedFault segment_code (λ _. Malformed BadByte)

-- the next flag
unfoldable pub segment_flag_at : Cursor → Result (SegmentFlag × Cursor) ReadError
segment_flag_at c =
    coded_at segment_code (InMemory ∷ InNoMemory ∷ InMemoryOf ∷ []) (λ _. Malformed BadByte) c

-- ---- where a segment goes

-- the memory of an active segment, the first one where none is named, and the expression of its
-- place
abbrev pub IsTarget : SegmentFlag → ℕ → Option ℕ → List ℕ → Type 0
IsTarget InMemory = Seen IsExpression (λ _. Some 0)
IsTarget InNoMemory = Seen IsNothing (λ _. None)
IsTarget InMemoryOf = Seen (Then IsU32 (λ _. IsExpression)) (λ p. Some p.0)

-- what is wrong with it
abbrev pub TargetFault : SegmentFlag → ReadError → Cursor → Type 0
TargetFault InMemory = ExpressionFault
TargetFault InNoMemory = NoFault
TargetFault InMemoryOf = ThenFault IsU32 NumberFault (λ _. ExpressionFault)

-- the memory that is named next
unfoldable pub target_at : SegmentFlag → Cursor → Result (Option ℕ × Cursor) ReadError
target_at InMemory c = map_at (λ _. Some 0) expression_at c
target_at InNoMemory c = map_at (λ _. None) nothing_at c
target_at InMemoryOf c = map_at (λ p. Some p.0) (then_at number_at (λ _. expression_at)) c

-- ---- the bytes

-- their number, and then they
abbrev pub AreCounted : ℕ → List ℕ → List ℕ → Type 0
AreCounted place bytes text =
    (head : List ℕ) × (text ≡ head ++ bytes) × IsU32 place (length bytes) head

-- the next bytes
unfoldable pub counted_at : Cursor → Result (List ℕ × Cursor) ReadError
counted_at c = map_at (λ p. p.1) (then_at number_at stretch_at) c

-- ---- segments

-- A segment as clauses see it: whether it goes into a memory when the module starts; its bytes; how
-- many bytes of the section's payload lie before its flag; and how many bytes it takes from there
-- to the end of its own.
pub record Segment : Type 0 where
  pub kind : DataKind
  pub payload : List ℕ
  pub section_offset : ℕ
  pub encoded_size : ℕ

-- a segment, and the memory that it goes into when the module starts
pub record Targeted : Type 0 where
  pub segment : Segment
  pub memory_index : Option ℕ

-- which kind a flag says
abbrev pub segment_kind : SegmentFlag → DataKind
segment_kind InMemory = Active
segment_kind InNoMemory = Passive
segment_kind InMemoryOf = Active

-- the flag, where it goes, and the bytes
abbrev pub IsSegmentText : ℕ → SegmentFlag × (Option ℕ × List ℕ) → List ℕ → Type 0
IsSegmentText = Then (IsCoded segment_code) (λ f. Then (IsTarget f) (λ _. AreCounted))

-- that text, of which the segment gives the place and the size
abbrev pub IsSegment : ℕ → Targeted → List ℕ → Type 0
IsSegment place t text =
    (f : SegmentFlag) × IsSegmentText place (f, (t.memory_index, t.segment.payload)) text
    × (t.segment.kind ≡ segment_kind f) × (t.segment.section_offset ≡ place)
    × (t.segment.encoded_size ≡ length text)

-- the first of the three that is at fault
abbrev pub SegmentFault : ReadError → Cursor → Type 0
SegmentFault =
    ThenFault (IsCoded segment_code) SegmentFlagFault
    (λ f. ThenFault (IsTarget f) (TargetFault f) (λ _. BodyFault))

-- what was read as a segment of so many bytes, which stands at a place
abbrev pub segment_from : ℕ → ℕ → SegmentFlag × (Option ℕ × List ℕ) → Targeted
segment_from place len p = record {
  segment =
      record {
        kind = segment_kind p.0;
        payload = p.1.1;
        section_offset = place;
        encoded_size = len;
      };
  memory_index = p.1.0;
}

-- the next segment
unfoldable pub segment_at : Cursor → Result (Targeted × Cursor) ReadError
segment_at c =
    measured_at segment_from (then_at segment_flag_at
    (λ f. then_at (target_at f) (λ _. counted_at))) c

-- the payload is a list of these segments
abbrev pub AreTargeted : List Targeted → List ℕ → Type 0
AreTargeted = Whole (Listed IsSegment)

-- the same without their memories
abbrev pub plain_segments : List Targeted → List Segment
plain_segments = map (λ t. t.segment)

-- the payload is a list of these segments, whatever their memories
abbrev pub AreSegments : List Segment → List ℕ → Type 0
AreSegments = SeenAs plain_segments AreTargeted

-- what is wrong with a payload that is no list of segments
abbrev pub SegmentsFault : ReadError → List ℕ → Type 0
SegmentsFault = WholeFault (Listed IsSegment) (ListedFault IsSegment SegmentFault)

-- the segments of a whole payload, with their memories
abbrev pub targeted_of : List ℕ → Result (List Targeted) ReadError
targeted_of payload = whole_of (list_at segment_at) payload

-- the segments of a whole payload
abbrev pub segments_of : List ℕ → Result (List Segment) ReadError
segments_of payload = seen_of plain_segments targeted_of payload
