use Rattle.std.proofs.Common.{◌≡◌, ◌∙◌, ◌<◌, ℕ, length, set, refl, ap, arith, vec_len}
use Rattle.std.proofs.lemmas.Option.{slice_get_read}
use Rattle.wl_data.specs.Segments.{SegmentLayout}
use Rattle.wl_index.specs.declared.data_address.WasmDataAddress.{WasmDataAddress}
use Rattle.wl_places.proofs.AddressLaws.{all_missing, starts_long, start_more}
use Rattle.wl_places.proofs.addresses.object_starts.Goals as goal

pub index_mut-requires : goal.index_mut-requires
index_mut-requires c =
    let l : SegmentLayout = c.layout-item.result in
    let index : c.layout.inside.segment_index ≡ l.segment_index =
    ap (λ (s : SegmentLayout). s.segment_index) c.layout.view_is in
    let within : l.segment_index < c.args.count =
    c.requires.within c.loop-layout.layout-index l
    (slice_get_read c.args.layouts.now (length c.args.layouts.now) c.loop-layout.layout-index l
    refl c.loop-layout-test.true c.layout-item.is) in
    let long : length c.loop-layout.starts.items ≡ c.args.count =
    starts_long _ c.args.count c.loop-layout.starts.items c.loop-layout.invariant in
    let same : vec_len c.loop-layout.starts ≡ length c.loop-layout.starts.items =
    c.loop-layout.starts.ok.0 in
    omega (arith, index, within, long, same)

pub loop-layout-init : goal.loop-layout-init
loop-layout-init c =
    c.in_ok-starts.ensures.items_if_clones_equal (λ y e. e) ∙ all_missing 0 c.args.count

pub loop-layout-preserved : goal.loop-layout-preserved
loop-layout-preserved c =
    let l : SegmentLayout = c.layout-item.result in
    let index : c.layout.inside.segment_index ≡ l.segment_index =
    ap (λ (s : SegmentLayout). s.segment_index) c.layout.view_is in
    start_more c.args.count c.args.layouts.now c.loop-layout.layout-index l
    c.loop-layout.starts.items _ c.requires c.loop-layout-test.true c.layout-item.is
    (ap (λ (i : ℕ). set c.loop-layout.starts.items i c.start_of.result) index
    ∙ ap (λ (a : WasmDataAddress). set c.loop-layout.starts.items l.segment_index a)
    c.start_of.ensures)
    c.loop-layout.invariant
