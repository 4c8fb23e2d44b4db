-- The segments of the output file.
use Rattle.std.specs.Prelude.{ℕ, List, [], ◌∷◌, codes}
use Rattle.wl_sections.specs.declared.segment.SegmentType.{SegmentType}
use Rattle.wl_sections.specs.declared.segment.SegmentType.TheVariants.{Header, Module, Unused}
use Rattle.wl_sections.specs.declared.segment.ProgramSegmentDef.{ProgramSegmentDef}

-- the name of a segment
abbrev pub segment_name : SegmentType → List ℕ
segment_name Header = codes "HEADER"
segment_name Module = codes "MODULE"
segment_name Unused = codes "UNUSED"

-- the definition of a segment of that type
abbrev segment_def : SegmentType → ProgramSegmentDef
segment_def segment_type = record { segment_type = segment_type }

-- the segments that a file has, in their order
abbrev pub program_segments : List ProgramSegmentDef
program_segments = segment_def Header ∷ segment_def Module ∷ []
