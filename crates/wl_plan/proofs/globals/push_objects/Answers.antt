use Rattle.std.proofs.Common.{◌∙◌, ◌≤◌, List, length, subst}
use Rattle.wl_linking.specs.Object.{Object}
use Rattle.wl_lists.proofs.Rows.{object_here}
use Rattle.wl_plan.proofs.GlobalParts.{adds_none, adds_object, all_objects}
use Rattle.wl_plan.proofs.globals.push_objects.Goals as goal

pub loop-object-init : goal.loop-object-init
loop-object-init c = adds_none c.args.sources.now c.args.globals.now.items

pub push_globals-requires : goal.push_globals-requires
push_globals-requires c =
    object_here c.args.sources.now.book.now.input.now.link.objects c.as_slice-file-items.result.now
    c.loop-object.object c.file-item.result
    (c.as_slice-file-items.ensures.objects ∙ c.files.ensures.objects) c.loop-object-test.true
    c.file-item.is

pub loop-object-preserved : goal.loop-object-preserved
loop-object-preserved c =
    adds_object c.args.sources.now c.loop-object.object c.file-item.result _ _ _
    (object_here c.args.sources.now.book.now.input.now.link.objects c.as_slice-file-items.result.now
    c.loop-object.object c.file-item.result
    (c.as_slice-file-items.ensures.objects ∙ c.files.ensures.objects) c.loop-object-test.true
    c.file-item.is) c.loop-object.invariant c.in_ok-push_globals.ensures

pub returns : goal.returns
returns c =
    all_objects c.args.sources.now c.loop-object.object _ _
    (subst (λ (os : List Object). length os ≤ c.loop-object.object)
    (c.as_slice-file-items.ensures.objects ∙ c.files.ensures.objects) c.loop-object-test.false)
    c.loop-object.invariant
