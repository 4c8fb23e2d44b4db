-- The sizes of what a plan keeps.
use Rattle.std.specs.Prelude.{◌≡◌, ℕ, ◌+◌, List, [], ◌∷◌, ◌++◌, codes, decimal}
use Rattle.std.specs.List.{count_by}
use Rattle.wl_module.specs.Bodies.{Body}
use Rattle.wl_data.specs.Sizes.{HasEntrySize}
use Rattle.wl_text.specs.Pieces.{numbered}
use Rattle.wl_plan.specs.PlannedImports.{is_function_import}
use Rattle.wl_plan.specs.declared.layout.LinkPlan.{LinkPlan}
use Rattle.wl_plan.specs.ObjectSegments.{ObjectSegment, segments_of_objects}

-- a word, a number and a size
abbrev pub size_line : List ℕ → ℕ → ℕ → List ℕ
size_line word number size = word ++ decimal number ++ codes " " ++ decimal size ++ codes "\n"

-- the functions of these bodies, the first of which has that number, each with the bytes that its
-- body takes, its length before it included
abbrev pub AreCodeLines : ℕ → List Body → List ℕ → Type 0
AreCodeLines number [] text = text ≡ []
AreCodeLines number (b ∷ bodies) text =
    (size : ℕ) × (rest : List ℕ) × HasEntrySize b size × AreCodeLines (number + 1) bodies rest
    × (text ≡ size_line (codes "code ") number size ++ rest)

-- a segment: its number, and the bytes that it takes
abbrev pub data_line : ℕ → ObjectSegment → List ℕ
data_line number s = size_line (codes "data ") number s.layout.encoded_output_size

-- what the two sections take as a whole
abbrev pub total_lines : LinkPlan → List ℕ
total_lines plan =
    codes "total code " ++ decimal plan.layout.code_section_size
    ++ codes "\ntotal data " ++ decimal plan.layout.data_section_size ++ codes "\n"

-- The sizes of a plan: of each function that isn't imported, of each segment, and of the two
-- sections. Imported functions have the first numbers.
pub record IsMapText (plan : LinkPlan) (text : List ℕ) : Type 0 where
  pub functions : List ℕ
  pub sized : AreCodeLines (count_by is_function_import plan.layout.imports)
      plan.layout.function_bodies functions
  pub is : text ≡ functions
      ++ (numbered data_line 0 (segments_of_objects 0 plan.layout.object_data_layouts)
      ++ total_lines plan)
