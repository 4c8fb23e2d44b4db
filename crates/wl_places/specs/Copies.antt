-- Which segments are copied before code runs, and to where (object file linking, version 2; the threads
-- proposal).
use Rattle.std.specs.Prelude.{ℕ, ◌+◌, ◌==◌, ◌&&◌, ◌<◌, ◌^◌, Bool, not, List, [], ◌∷◌, ◌++◌, length, if◌then◌else◌}
use Rattle.std.specs.List.{AllByRecursion}
use Rattle.wl_data.specs.DataPlaces.{in_one_row}
use Rattle.wl_data.specs.Segments.{SegmentLayout}
use Rattle.wl_synth.specs.declared.parts.PassiveSegmentCopy.{PassiveSegmentCopy}
use Rattle.wl_places.specs.declared.copies.Copied.{Copied}
use Rattle.wl_places.specs.declared.copies.Copied.TheVariants.{Shared, Template}
use Rattle.wl_places.specs.declared.placing.Placing.{Placing}

-- the copy of the segment that has that number in the output
abbrev pub copy_of : ℕ → SegmentLayout → PassiveSegmentCopy
copy_of number l =
    record { segment_index = number; offset = l.output_memory_offset; len = length l.payload }

-- those of these segments that pass the test, the first of which has that number
abbrev pub copies_from : (SegmentLayout → Bool) → ℕ → List SegmentLayout → List PassiveSegmentCopy
copies_from test number [] = []
copies_from test number (l ∷ layouts) =
    (if test l then copy_of number l ∷ [] else []) ++ copies_from test (number + 1) layouts

-- the segments of the output: the number of each is its place
abbrev pub all_layouts : Placing → List SegmentLayout
all_layouts g = in_one_row g.places.layouts

-- those that the first thread copies into the memory; none of them is empty
abbrev pub shared_copies : Placing → List PassiveSegmentCopy
shared_copies g = copies_from (λ (l : SegmentLayout). l.shared_init) 0 (all_layouts g)

-- the segment goes into the block of each thread, and has bytes
abbrev pub is_filled_template : SegmentLayout → Bool
is_filled_template l = l.tls_template && not (length l.payload == 0)

-- those that each thread copies into its block
abbrev pub template_copies : Placing → List PassiveSegmentCopy
template_copies g = copies_from is_filled_template 0 (all_layouts g)

-- the segment is one of those that are copied so
abbrev pub is_copied : Copied → SegmentLayout → Bool
is_copied Shared l = l.shared_init
is_copied Template l = is_filled_template l

-- the number of its bytes is one of 32 bits
abbrev pub IsSmallLayout : SegmentLayout → Type 0
IsSmallLayout l = length l.payload < 2 ^ 32

abbrev pub AreSmallLayouts : List SegmentLayout → Type 0
AreSmallLayouts layouts = AllByRecursion IsSmallLayout layouts
