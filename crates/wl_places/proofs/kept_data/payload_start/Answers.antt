use Rattle.std.proofs.Common.{length, ap, arith}
use Rattle.wl_module.specs.Segments.{Segment}
use Rattle.wl_places.proofs.KeptDataLaws.{segment_spanned}
use Rattle.wl_places.proofs.kept_data.payload_start.Goals as goal

pub overflow_add-result : goal.overflow_add-result
overflow_add-result c =
    let fits = segment_spanned c.segments_keep_bounds.ensures.spanned c.args.file.now c.args.number c.args.segment.now c.requires.whole c.requires.here in
    omega (arith, fits.end, ap (λ (x : Segment). x.section_offset) c.segment.view_is, ap (λ (x : Segment). x.encoded_size) c.segment.view_is)

pub overflow_cast-result : goal.overflow_cast-result
overflow_cast-result c =
    let fits = segment_spanned c.segments_keep_bounds.ensures.spanned c.args.file.now c.args.number c.args.segment.now c.requires.whole c.requires.here in
    omega (arith, fits.payload, fits.end, ap (λ (x : Segment). length x.payload) c.segment.view_is)

pub overflow_sub-result : goal.overflow_sub-result
overflow_sub-result c =
    let fits = segment_spanned c.segments_keep_bounds.ensures.spanned c.args.file.now c.args.number c.args.segment.now c.requires.whole c.requires.here in
    omega (arith, fits.payload, ap (λ (x : Segment). length x.payload) c.segment.view_is, ap (λ (x : Segment). x.encoded_size) c.segment.view_is)
