-- Segments that hold data of which each thread has its own (object file linking, version 2,
-- "Segment Info Subsection" and "Symbol Table Subsection").
use Rattle.std.specs.Prelude.{ℕ, ◌==◌, ◌&&◌, Bool, List, map, length, Option, Some, None, slice_get}
use Rattle.std.specs.List.{list_any, range_with_len}
use Rattle.wl_linking.specs.Object.{Object}
use Rattle.wl_custom.specs.Infos.{SegmentInfo, is_tls}
use Rattle.wl_custom.specs.Symbols.{Symbol, is_thread_data}

-- data of a thread lies on the segment of that number
abbrev pub is_thread_symbol_on : ℕ → Symbol → Bool
is_thread_symbol_on segment s = is_thread_data s && (s.index == segment)

-- the info of a segment says it, and where there is none its symbols do
abbrev pub is_thread_segment_by : List Symbol → ℕ → Option SegmentInfo → Bool
is_thread_segment_by symbols segment (Some info) = is_tls info
is_thread_segment_by symbols segment None = list_any (is_thread_symbol_on segment) symbols

-- each thread has its own of the segment of that number
abbrev pub is_thread_segment : Object → ℕ → Bool
is_thread_segment o segment =
    is_thread_segment_by o.symbols segment (slice_get o.segment_infos segment)

-- the same of each segment of an object
abbrev pub thread_data : Object → List Bool
thread_data o = map (is_thread_segment o) (range_with_len 0 (length o.segments))
