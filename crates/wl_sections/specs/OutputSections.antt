-- What stands in the output (core specification, "Modules"): the order in which it is written, the
-- numbers of its parts, and the segments in which they stand.
use Rattle.std.specs.Prelude.{◌≡◌, ℕ, List, [], ◌∷◌, Option, Some, None, slice_get}
use Rattle.std.specs.List.{Contains}
use Rattle.wl_sections.specs.declared.output_section.OutputSection.{OutputSection}
use Rattle.wl_sections.specs.declared.output_section.OutputSection.TheVariants as section
use Rattle.wl_sections.specs.declared.segment.SegmentType.{SegmentType}
use Rattle.wl_sections.specs.declared.segment.SegmentType.TheVariants as segment

-- what is written, in this order: the header, the standard sections as a module has them, the custom
-- ones
abbrev pub output_order : List OutputSection
output_order =
    section.FileHeader
    ∷ section.Type ∷ section.Import ∷ section.Function ∷ section.Table ∷ section.Memory
    ∷ section.Global ∷ section.Export ∷ section.Start ∷ section.Element ∷ section.DataCount
    ∷ section.Code ∷ section.Data
    ∷ section.Debug ∷ section.Name ∷ section.TargetFeatures ∷ []

-- the parts of the output, in the order of their numbers: the sections that are one each, then all
-- debug sections
abbrev pub part_order : List OutputSection
part_order =
    section.Type ∷ section.Import ∷ section.Function ∷ section.Table ∷ section.Memory
    ∷ section.Global ∷ section.Export ∷ section.Start ∷ section.Element ∷ section.DataCount
    ∷ section.Code ∷ section.Data
    ∷ section.Name ∷ section.TargetFeatures ∷ section.Debug ∷ []

-- the number of a section is its place among the parts, and there is none where it is no part
abbrev pub IsOrdinal : OutputSection → Option ℕ → Type 0
IsOrdinal s (Some ordinal) = slice_get part_order ordinal ≡ Some s
IsOrdinal s None = ¬ Contains part_order s

-- the header of the file is a segment by itself, and all sections are the other one
abbrev pub segment_type : OutputSection → SegmentType
segment_type section.FileHeader = segment.Header
segment_type _ = segment.Module
