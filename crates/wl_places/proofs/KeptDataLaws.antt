-- The kept segments of objects, one by one.
use Rattle.std.proofs.Common.{◌≡◌, ◌∙◌, ℕ, zero, suc, ◌+◌, ◌<◌, Bool, true, false, List, [], ◌∷◌, length, get_or, drop, drop-cons, add-one, slice_get, Some, if◌then◌else◌, sym, ap, arith}
use Rattle.std.specs.List.{AllByRecursion}
use Rattle.std.specs.Option.{option_map_or}
use Rattle.std.proofs.lemmas.Nat.{pow_pos}
use Rattle.wl_module.specs.Segments.{Segment}
use Rattle.wl_linking.specs.Bounds.{HasAlignment}
use Rattle.wl_linking.specs.Fitting.{IsWhole}
use Rattle.wl_custom.specs.Infos.{SegmentInfo}
use Rattle.wl_linking.specs.Object.{Object}
use Rattle.wl_linking.specs.Placing.{IsSpanned}
use Rattle.wl_data.specs.DataPlaces.{AllCanBePlaced}
use Rattle.wl_data.specs.Layouts.{CanBePlaced}
use Rattle.wl_data.specs.Segments.{KeptData}
use Rattle.wl_symbols.specs.declared.units.WasmGcUnit.TheVariants.{DataSegment}
use Rattle.wl_symbols.specs.Input.{Input, keeps}
use Rattle.wl_places.specs.KeptData.{kept_data, kept_from, segments_from}
use Rattle.wl_lists.proofs.Places.{all_append, all_at}

-- ---- items of lists

-- the row begins with the item that stands there
pub split_at : {X : Type 0} (xs : List X) (k : ℕ) (x : X) → k < length xs → x ≡ get_or xs k x → drop k xs ≡ x ∷ drop (k + 1) xs
split_at xs k x within is = rw (add-one) (drop-cons xs k x within ∙ ap (λ y. y ∷ drop (suc k) xs) (sym is))

-- ---- one segment

-- what is known of the segments of whole objects: where they end, and that each has an alignment
abbrev pub SegmentsAreSpanned : Type 0
SegmentsAreSpanned = (o : Object) → IsWhole o → AllByRecursion IsSpanned o.segments

abbrev pub SegmentsAreAligned : Type 0
SegmentsAreAligned = (o : Object) → IsWhole o → AllByRecursion HasAlignment o.segment_infos

-- where a segment of a whole object ends
pub segment_spanned : SegmentsAreSpanned → (o : Object) (k : ℕ) (s : Segment) → IsWhole o → slice_get o.segments k ≡ Some s → IsSpanned s
segment_spanned spanned o k s whole here = all_at IsSpanned o.segments k s (spanned o whole) here

-- ---- they can be placed

some_alignment : (infos : List SegmentInfo) (n : ℕ) → AllByRecursion HasAlignment infos → 0 < option_map_or (λ (info : SegmentInfo). info.alignment) (slice_get infos n) 1
some_alignment [] n h = omega arith
some_alignment (i ∷ infos) zero h = omega (arith, pow_pos h.0.0, h.0.2)
some_alignment (i ∷ infos) (suc n) h = some_alignment infos n h.1

one_can : (b : Bool) (s : KeptData) → CanBePlaced s → AllByRecursion CanBePlaced (if b then s ∷ [] else [])
one_can true s h = (h, tt)
one_can false s h = tt

kept_can : (input : Input) (object : ℕ) (o : Object) (k : ℕ) (ss : List Segment) → AllByRecursion HasAlignment o.segment_infos → AllByRecursion IsSpanned ss → AllByRecursion CanBePlaced (kept_from input object o k ss)
kept_can input object o k [] aligned spanned = tt
kept_can input object o k (s ∷ ss) aligned spanned =
    all_append CanBePlaced (if keeps input object (DataSegment k) then kept_data o k s ∷ [] else []) (kept_from input object o (k + 1) ss)
    (one_can (keeps input object (DataSegment k)) (kept_data o k s) (record { aligned = some_alignment o.segment_infos k aligned; small = omega (arith, spanned.0.payload, spanned.0.end) }))
    (kept_can input object o (k + 1) ss aligned spanned.1)

-- those of whole objects can
pub all_can : SegmentsAreSpanned → SegmentsAreAligned → (input : Input) (k : ℕ) (objects : List Object) → AllByRecursion IsWhole objects → AllByRecursion AllCanBePlaced (segments_from input k objects)
all_can spanned aligned input k [] h = tt
all_can spanned aligned input k (o ∷ objects) h = (kept_can input k o 0 o.segments (aligned o h.0) (spanned o h.0), all_can spanned aligned input (k + 1) objects h.1)
