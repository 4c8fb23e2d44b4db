-- Memory and segments as they are at the start.
use Rattle.std.specs.Prelude.{ℕ, ◌+◌, ◌*◌, if◌then◌else◌, List, [], ◌∷◌, map, replicate}
use Rattle.wl_module.specs.declared.limits.TheConstants.{WASM_PAGE_SIZE}
use Rattle.wl_lists.specs.Rows.{by_number}
use Rattle.wl_symbols.specs.declared.relocated.FixupPlace.TheVariants.{Segment}
use Rattle.wl_data.specs.Segments.{SegmentLayout}
use Rattle.wl_load.specs.Fields.{laid}
use Rattle.wl_output.specs.declared.fixups.Fixup.{Fixup}
use Rattle.wl_run.specs.Filled.{filled}
use Rattle.wl_run.specs.declared.sites.Site.{Site}

-- a segment of an object
abbrev pub segment_site : ℕ → SegmentLayout → Site
segment_site object l = record { object = object; place = Segment; unit = l.segment_index }

-- its bytes, filled
abbrev pub filled_payload : List Fixup → ℕ → SegmentLayout → List ℕ
filled_payload fixups object l = filled (segment_site object l) fixups l.payload

-- ---- memory

-- a segment stands at its address, unless it goes nowhere by itself
abbrev pub with_segment : List Fixup → ℕ → SegmentLayout → List ℕ → List ℕ
with_segment fixups object l memory =
    if l.passive then memory
    else laid l.output_memory_offset (filled_payload fixups object l) memory

-- those of an object do
abbrev pub with_segments : List Fixup → ℕ → List SegmentLayout → List ℕ → List ℕ
with_segments fixups object [] memory = memory
with_segments fixups object (l ∷ ls) memory =
    with_segments fixups object ls (with_segment fixups object l memory)

-- those of all objects do, the first of which has that number
abbrev pub with_objects : List Fixup → ℕ → List (List SegmentLayout) → List ℕ → List ℕ
with_objects fixups object [] memory = memory
with_objects fixups object (ls ∷ objects) memory =
    with_objects fixups (object + 1) objects (with_segments fixups object ls memory)

-- pages of zeros
abbrev pub empty_pages : ℕ → List ℕ
empty_pages pages = replicate (pages * WASM_PAGE_SIZE) 0

-- so many pages: the segments at their addresses, and zeros
abbrev pub first_memory : List Fixup → ℕ → List (List SegmentLayout) → List ℕ
first_memory fixups pages objects = with_objects fixups 0 objects (empty_pages pages)

-- ---- segments

-- the bytes that operators copy: none of a segment that lies in memory
abbrev pub kept_segment : List Fixup → ℕ → SegmentLayout → List ℕ
kept_segment fixups object l = if l.passive then filled_payload fixups object l else []

abbrev pub kept_of_object : List Fixup → ℕ → List SegmentLayout → List (List ℕ)
kept_of_object fixups object ls = map (kept_segment fixups object) ls

-- those of all objects in a row
abbrev pub kept_segments : List Fixup → List (List SegmentLayout) → List (List ℕ)
kept_segments fixups objects = by_number (kept_of_object fixups) 0 objects
