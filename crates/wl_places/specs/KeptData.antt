-- The segments that are kept, and what decides where they lie.
use Rattle.std.specs.Prelude.{ℕ, ◌+◌, ◌-◌, List, [], ◌∷◌, ◌++◌, length, if◌then◌else◌, slice_get}
use Rattle.std.specs.Option.{option_map_or}
use Rattle.wl_module.specs.Segments.{Segment}
use Rattle.wl_custom.specs.Infos.{SegmentInfo}
use Rattle.wl_linking.specs.Object.{Object}
use Rattle.wl_data.specs.Segments.{KeptData}
use Rattle.wl_symbols.specs.declared.units.WasmGcUnit.TheVariants.{DataSegment}
use Rattle.wl_symbols.specs.Input.{Input, keeps}
use Rattle.wl_bind.specs.Made.{is_active}
use Rattle.wl_bind.specs.ThreadData.{is_thread_segment}

-- ---- one segment

-- its alignment in bytes: that of its info, and 1 without one (object file linking, version 2,
-- "Segment Info Subsection")
abbrev pub alignment_of : Object → ℕ → ℕ
alignment_of o number =
    option_map_or (λ (info : SegmentInfo). info.alignment) (slice_get o.segment_infos number) 1

-- how many bytes of the data section lie before its own
abbrev pub payload_start : Segment → ℕ
payload_start s = s.section_offset + s.encoded_size - length s.payload

-- the segment of that number, as it is laid out
abbrev pub kept_data : Object → ℕ → Segment → KeptData
kept_data o number s = record {
  original = number;
  payload = s.payload;
  payload_start = payload_start s;
  active = is_active s.kind;
  tls = is_thread_segment o number;
  alignment = alignment_of o number;
}

-- ---- all of them

-- those of these segments of an object that are kept, the first of which has that number
abbrev pub kept_from : Input → ℕ → Object → ℕ → List Segment → List KeptData
kept_from input object o number [] = []
kept_from input object o number (s ∷ segments) =
    (if keeps input object (DataSegment number) then kept_data o number s ∷ [] else [])
    ++ kept_from input object o (number + 1) segments

-- those of an object
abbrev pub kept_segments : Input → ℕ → Object → List KeptData
kept_segments input object o = kept_from input object o 0 o.segments

-- those of each of these objects, the first of which has that number
abbrev pub segments_from : Input → ℕ → List Object → List (List KeptData)
segments_from input object [] = []
segments_from input object (o ∷ objects) =
    kept_segments input object o ∷ segments_from input (object + 1) objects

-- those of each object
abbrev pub all_segments : Input → List (List KeptData)
all_segments input = segments_from input 0 input.link.objects
