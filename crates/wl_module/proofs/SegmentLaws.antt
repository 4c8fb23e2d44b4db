-- The laws of segments.
use Rattle.std.proofs.Common.{◌≡◌, ℕ, ◌-◌, ◌≤◌, List, [], ◌∷◌, ◌++◌, length, Option, Some, None, Result, Ok, refl, sym, ap, subst, ◌∙◌, arith}
use Rattle.wl_bytes.specs.Cursor.{Cursor}
use Rattle.wl_bytes.specs.Leb.{IsU32}
use Rattle.wl_bytes.specs.Grammar.{then_at}
use Rattle.wl_bytes.proofs.Readings.{IsReading}
use Rattle.wl_bytes.proofs.GrammarLaws.{map_reading}
use Rattle.wl_module.specs.declared.segments.SegmentFlag.{SegmentFlag}
use Rattle.wl_module.specs.declared.segments.SegmentFlag.TheVariants.{InMemory, InNoMemory, InMemoryOf}
use Rattle.wl_bytes.specs.declared.read_error.Why.TheVariants.{BadByte}
use Rattle.wl_bytes.specs.declared.read_error.ReadError.{ReadError}
use Rattle.wl_bytes.specs.declared.read_error.ReadError.TheVariants.{Malformed}
use Rattle.wl_bytes.specs.Lists.{number_at, IsCoded, Listed, ListedFault, list_at}
use Rattle.wl_module.specs.Bodies.{BodyFault}
use Rattle.wl_bytes.specs.Lists.{stretch_at}
use Rattle.wl_module.specs.Segments.{segment_code, SegmentFlagFault, segment_flag_at, IsTarget, TargetFault, target_at, AreCounted, counted_at, segment_kind, IsSegmentText, IsSegment, SegmentFault, segment_from, segment_at, Targeted, plain_segments, AreTargeted, targeted_of, AreSegments, SegmentsFault, segments_of}
use Rattle.wl_bytes.proofs.ReadingLaws.{both, seen}
use Rattle.wl_bytes.proofs.ListLaws.{AreAll, coded_reading, number_reading, list_reading, whole_reading, IsWholeReading, seen_reading}
use Rattle.wl_bytes.proofs.CheckLaws.{nothing_reading, measured_reading}
use Rattle.wl_module.proofs.ConstantLaws.{expression_reading}
use Rattle.wl_module.proofs.BodyLaws.{stretch_reading}

all_flags : AreAll segment_code (InMemory ∷ InNoMemory ∷ InMemoryOf ∷ [])
all_flags InMemory = refl
all_flags InNoMemory = refl
all_flags InMemoryOf = refl

flag_reading : IsReading (IsCoded segment_code) SegmentFlagFault segment_flag_at
unfolding segment_flag_at
flag_reading = coded_reading segment_code (InMemory ∷ InNoMemory ∷ InMemoryOf ∷ []) (λ _. Malformed BadByte) all_flags

target_reading : (f : SegmentFlag) → IsReading (IsTarget f) (TargetFault f) (target_at f)
unfolding target_at
target_reading InMemory = seen (λ _. Some 0) expression_reading
target_reading InNoMemory = seen (λ _. None) nothing_reading
target_reading InMemoryOf = seen (λ p. Some p.0) (both number_reading (λ _. expression_reading))

counted_reading : IsReading AreCounted BodyFault counted_at
unfolding counted_at
counted_reading = map_reading _ AreCounted BodyFault _ (λ p. p.1) (λ bytes. (length bytes, bytes))
    (λ place p text s. (s.0, s.2 ∙ ap (λ (x : List ℕ). s.0 ++ x) s.4.0, subst (λ (n : ℕ). IsU32 place n s.0) (sym s.4.1) s.3))
    (λ place bytes text s. ((s.0, bytes, s.1, s.2, (refl, refl)), refl))
    (both number_reading stretch_reading)

abbrev text_at : Cursor → Result ((SegmentFlag × (Option ℕ × List ℕ)) × Cursor) ReadError
text_at = then_at segment_flag_at (λ f. then_at (target_at f) (λ _. counted_at))

text_reading : IsReading IsSegmentText SegmentFault text_at
text_reading = both flag_reading (λ f. both (target_reading f) (λ _. counted_reading))

-- the same segment, by its kind, its place and its size
same_segment : (place len : ℕ) (f : SegmentFlag) (t : Targeted) → t.segment.kind ≡ segment_kind f → t.segment.section_offset ≡ place → t.segment.encoded_size ≡ len → segment_from place len (f, (t.memory_index, t.segment.payload)) ≡ t
same_segment place len f t kind offset size = rw (← kind, ← offset, ← size) refl

pub segment_reading : IsReading IsSegment SegmentFault segment_at
unfolding segment_at
segment_reading = measured_reading IsSegmentText IsSegment SegmentFault text_at segment_from
    (λ place p text s. (p.0, s, refl, refl, refl))
    (λ place y text s. ((s.0, (y.memory_index, y.segment.payload)), s.1, same_segment place (length text) s.0 y s.2 s.3 s.4))
    text_reading

-- a segment whose parts were read one after the other
pub segment_read : (c m m' m'' to : Cursor) (f : SegmentFlag) (memory : Option ℕ) (n : ℕ) (payload : List ℕ) → segment_flag_at c ≡ Ok (f, m) → target_at f m ≡ Ok (memory, m') → number_at m' ≡ Ok (n, m'') → stretch_at n m'' ≡ Ok (payload, to)
    → (c.position ≤ to.position) × (segment_at c ≡ Ok (segment_from c.position (to.position - c.position) (f, (memory, payload)), to))
unfolding segment_at counted_at
segment_read c m m' m'' to f memory n payload first target number bytes =
    let whole : text_at c ≡ Ok ((f, (memory, payload)), to) = rw (first, target, number, bytes) refl in
    let t = text_reading.found c (f, (memory, payload)) to whole in
    (omega (arith, t.moved), rw whole refl)

pub targeted_reading : IsWholeReading AreTargeted SegmentsFault targeted_of
targeted_reading = whole_reading (Listed IsSegment) (ListedFault IsSegment SegmentFault) (list_at segment_at) (list_reading IsSegment SegmentFault segment_at segment_reading)

pub segments_reading : IsWholeReading AreSegments SegmentsFault segments_of
segments_reading = seen_reading plain_segments AreTargeted SegmentsFault targeted_of targeted_reading
