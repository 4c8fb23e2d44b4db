-- How many bytes and segments the output has at most.
use Rattle.std.proofs.Common.{Bool, not, List, [], ◌∷◌, length, filter, ap, arith, inl, inr}
use Rattle.std.specs.List.{AllByRecursion, AllZip}
use Rattle.std.proofs.lemmas.Bool.{cases_Bool}
use Rattle.wl_linking.specs.Fitting.{IsWhole}
use Rattle.wl_data.specs.DataPlaces.{AllCanBePlaced, DataInput, HasLayout, HaveLayouts, IsDataPlaces, in_output_order, is_thread_local}
use Rattle.wl_data.specs.Layouts.{CanBePlaced}
use Rattle.wl_data.specs.Segments.{KeptData, SegmentLayout}
use Rattle.wl_data.specs.declared.options.DataOptions.{DataOptions}
use Rattle.wl_data.specs.declared.places.DataPlaces.{DataPlaces as SpecPlaces}
use Rattle.wl_symbols.specs.Input.{Input}
use Rattle.wl_places.specs.Copies.{AreSmallLayouts}
use Rattle.wl_places.specs.KeptData.{all_segments}
use Rattle.wl_places.specs.Placing.{IsPlacing, data_input, data_options}
use Rattle.wl_places.specs.declared.placing.Placing.{Placing}
use Rattle.wl_places.proofs.KeptDataLaws.{SegmentsAreAligned, SegmentsAreSpanned, all_can}
use Rattle.wl_lists.proofs.Places.{all_append}

-- what is known of places: each kept segment has its layout
abbrev pub SegmentsHaveLayouts : Type 0
SegmentsHaveLayouts =
    (d : DataInput) (p : SpecPlaces) → IsDataPlaces d p → AllZip (HaveLayouts d.options) d.objects p.layouts

all_filter : {X : Type 0} (P : X → Type 0) (test : X → Bool) (xs : List X) → AllByRecursion P xs
    → AllByRecursion P (filter test xs)
all_filter P test [] h = tt
all_filter P test (x ∷ xs) h = elim (cases_Bool (test x)) [
  | inl passes ↦ rw passes (h.0, all_filter P test xs h.1)
  | inr fails ↦ rw fails (all_filter P test xs h.1)
]

small_zip : (o : DataOptions) (segments : List KeptData) (layouts : List SegmentLayout)
    → AllZip (HasLayout o) segments layouts → AllByRecursion CanBePlaced segments → AreSmallLayouts layouts
small_zip o [] [] z h = tt
small_zip o [] (l ∷ layouts) z h = absurd z
small_zip o (s ∷ segments) [] z h = absurd z
small_zip o (s ∷ segments) (l ∷ layouts) z h =
    let bytes = ap length z.0.payload in
    let few = h.0.small in
    (omega (arith, bytes, few), small_zip o segments layouts z.1 h.1)

small_rows : (o : DataOptions) (objects : List (List KeptData)) (rows : List (List SegmentLayout))
    → AllZip (HaveLayouts o) objects rows → AllByRecursion AllCanBePlaced objects
    → AllByRecursion AreSmallLayouts rows
small_rows o [] [] z h = tt
small_rows o [] (r ∷ rows) z h = absurd z
small_rows o (x ∷ objects) [] z h = absurd z
small_rows o (x ∷ objects) (r ∷ rows) z h = (
  small_zip o (in_output_order x) r z.0
      (all_append CanBePlaced (filter (λ (s : KeptData). not s.tls) x) (filter is_thread_local x)
      (all_filter CanBePlaced (λ (s : KeptData). not s.tls) x h.0) (all_filter CanBePlaced is_thread_local x h.0)),
  small_rows o objects rows z.1 h.1,
)

-- the segments of whole objects have few bytes each
pub all_small : SegmentsHaveLayouts → SegmentsAreSpanned → SegmentsAreAligned → (input : Input) (g : Placing) → AllByRecursion IsWhole input.link.objects
    → IsPlacing input g → AllByRecursion AreSmallLayouts g.places.layouts
all_small law spanned aligned input g whole placed =
    small_rows (data_options input) (all_segments input) g.places.layouts (law (data_input input) g.places placed.laid)
    (all_can spanned aligned input 0 input.link.objects whole)
