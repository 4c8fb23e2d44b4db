use Rattle.std.proofs.Common.{◌∙◌, ◌<◌, List, length, subst, arith}
use Rattle.wl_linking.specs.Object.{Object}
use Rattle.wl_places.specs.AddressSteps.{AreObjectStarts}
use Rattle.wl_lists.proofs.Places.{there_is}
use Rattle.wl_lists.proofs.Rows.{rows_length, row_more}
use Rattle.wl_places.proofs.AddressLaws.{AreLaid, all_laid, same_object, once_for, starts_for}
use Rattle.wl_places.proofs.addresses.all_starts.Goals as goal

pub layouts_of-layouts-requires : goal.layouts_of-layouts-requires
layouts_of-layouts-requires c =
    let input = c.args.input.now in
    let objects : List Object = input.link.objects in
    let files = c.as_slice-file-items.ensures.objects ∙ c.files.ensures.objects in
    let lt : c.loop-object.object < length objects =
    subst (λ (os : List Object). c.loop-object.object < length os) files c.loop-object-test.true in
    let long = rows_length (AreLaid input) 0 objects c.args.placing.now.places.layouts
    (all_laid input c.args.placing.now c.segments_have_layouts.ensures c.requires) in
    omega (arith, lt, long)

pub object_starts-requires : goal.object_starts-requires
object_starts-requires c =
    let input = c.args.input.now in
    let objects : List Object = input.link.objects in
    let files = c.as_slice-file-items.ensures.objects ∙ c.files.ensures.objects in
    let lt : c.loop-object.object < length objects =
    subst (λ (os : List Object). c.loop-object.object < length os) files c.loop-object-test.true in
    let o = there_is objects c.loop-object.object lt in
    once_for input c.args.placing.now c.loop-object.object c.num_data_segments.result o.0
    c.file-item.result c.layouts_of-layouts.result.now
    (all_laid input c.args.placing.now c.segments_have_layouts.ensures c.requires)
    o.1 c.layouts_of-layouts.ensures
    (same_object objects c.as_slice-file-items.result.now c.loop-object.object o.0
    c.file-item.result files c.file-item.is o.1)
    c.num_data_segments.ensures

pub loop-object-preserved : goal.loop-object-preserved
loop-object-preserved c =
    let input = c.args.input.now in
    let g = c.args.placing.now in
    let objects : List Object = input.link.objects in
    let files = c.as_slice-file-items.ensures.objects ∙ c.files.ensures.objects in
    let lt : c.loop-object.object < length objects =
    subst (λ (os : List Object). c.loop-object.object < length os) files c.loop-object-test.true in
    row_more (AreObjectStarts g) objects c.loop-object.starts.items c.push.new.self.items
    c.loop-object.object c.in_ok-object_starts.field-0 lt
    (λ o here. starts_for g c.loop-object.object c.num_data_segments.result o c.file-item.result
    c.layouts_of-layouts.result.now c.in_ok-object_starts.field-0 c.layouts_of-layouts.ensures
    (same_object objects c.as_slice-file-items.result.now c.loop-object.object o
    c.file-item.result files c.file-item.is here)
    c.num_data_segments.ensures c.in_ok-object_starts.ensures)
    c.in_ok-push.ensures.items c.loop-object.invariant
