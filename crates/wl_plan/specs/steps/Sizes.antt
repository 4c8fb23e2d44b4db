-- The sizes of sections.
use Rattle.std.specs.Prelude.{◌≡◌, ◌⊎◌, ◌≤◌, ℕ, ◌^◌, List, length}
use Rattle.wl_module.specs.Bodies.{Body}
use Rattle.wl_linking.specs.declared.error.LinkError.{LinkError}
use Rattle.wl_linking.specs.declared.error.LinkError.TheVariants.{TooLarge}
use Rattle.wl_linking.specs.declared.error.Quantity.TheVariants.{Size}
use Rattle.wl_data.specs.Segments.{SegmentLayout}
use Rattle.wl_data.specs.Sizes.{HasSectionSize, AreBodiesText, segment_count, all_encoded_bytes, body_bytes}
use Rattle.wl_plan.specs.declared.sizes.SectionSizes.{SectionSizes}

-- the bodies or the segments have too many bytes
abbrev pub IsTooBig : List Body → List (List SegmentLayout) → LinkError → Type 0
IsTooBig bodies layouts e =
    (e ≡ TooLarge Size) × ((2 ^ 62 ≤ body_bytes bodies) ⊎ (2 ^ 62 ≤ all_encoded_bytes layouts))

-- the sizes of the sections of bodies and segments
pub record HasSizes (bodies : List Body) (layouts : List (List SegmentLayout)) (s : SectionSizes)
    : Type 0 where
  pub text : List ℕ
  pub spelled : AreBodiesText bodies text
  pub code : HasSectionSize (length bodies) (length text) s.code
  pub segments : HasSectionSize (segment_count layouts) (all_encoded_bytes layouts) s.segments
