-- The segments of all objects in a row.
use Rattle.std.specs.Prelude.{ℕ, ◌+◌, List, [], ◌∷◌, ◌++◌, map}
use Rattle.wl_data.specs.Segments.{SegmentLayout}

-- a segment of the output, of the object of that number
pub record ObjectSegment : Type 0 where
  pub object : ℕ
  pub layout : SegmentLayout

-- one of the segments of that object
abbrev pub of_object : ℕ → SegmentLayout → ObjectSegment
of_object object layout = record { object = object; layout = layout }

-- those of these objects, the first of which has that number
abbrev pub segments_of_objects : ℕ → List (List SegmentLayout) → List ObjectSegment
segments_of_objects object [] = []
segments_of_objects object (layouts ∷ objects) =
    map (of_object object) layouts ++ segments_of_objects (object + 1) objects
