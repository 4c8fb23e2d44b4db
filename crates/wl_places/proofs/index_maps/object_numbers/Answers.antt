use Rattle.std.proofs.Common.{◌≡◌, ◌∙◌, ◌<◌, ◌+◌, ℕ, length, set, refl, ap, arith, vec_len}
use Rattle.std.proofs.lemmas.Option.{slice_get_read}
use Rattle.wl_data.specs.Segments.{SegmentLayout}
use Rattle.wl_places.proofs.IndexLaws.{all_dead, numbers_long, number_more}
use Rattle.wl_places.proofs.index_maps.object_numbers.Goals as goal

pub loop-place-init : goal.loop-place-init
loop-place-init c =
    c.in_ok-numbers.ensures.items_if_clones_equal (λ y e. e)
    ∙ all_dead c.args.first 0 c.args.count

pub index_mut-requires : goal.index_mut-requires
index_mut-requires c =
    let l : SegmentLayout = c.index-layouts-place.result in
    let index : c.layout.inside.segment_index ≡ l.segment_index =
    ap (λ (s : SegmentLayout). s.segment_index) c.layout.view_is in
    let within : l.segment_index < c.args.count =
    c.requires.once.within c.loop-place.place l
    (slice_get_read c.args.layouts.now (length c.args.layouts.now) c.loop-place.place l
    refl c.loop-place-test.true c.index-layouts-place.is) in
    let long : length c.loop-place.numbers.items ≡ c.args.count =
    numbers_long _ c.args.first c.args.count c.loop-place.numbers.items c.loop-place.invariant in
    let same : vec_len c.loop-place.numbers ≡ length c.loop-place.numbers.items =
    c.loop-place.numbers.ok.0 in
    omega (arith, index, within, long, same)

pub loop-place-preserved : goal.loop-place-preserved
loop-place-preserved c =
    let l : SegmentLayout = c.index-layouts-place.result in
    let index : c.layout.inside.segment_index ≡ l.segment_index =
    ap (λ (s : SegmentLayout). s.segment_index) c.layout.view_is in
    number_more c.args.count c.args.first c.args.layouts.now c.loop-place.place l
    c.loop-place.numbers.items _ c.requires.once c.loop-place-test.true c.index-layouts-place.is
    (ap (λ (i : ℕ). set c.loop-place.numbers.items i (c.args.first + c.loop-place.place)) index)
    c.loop-place.invariant
