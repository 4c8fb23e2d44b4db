use Rattle.std.proofs.Common.{◌≤◌, List, length, subst}
use Rattle.wl_linking.specs.Object.{Object}
use Rattle.wl_lists.proofs.Rows.{object_here}
use Rattle.wl_plan.proofs.GrowLaws.{adds_none, objects_all, objects_more}
use Rattle.wl_plan.proofs.bodies.push_objects.Goals as goal

pub loop-object-init : goal.loop-object-init
loop-object-init c = (
  adds_none c.args.renumbering.now.input.now c.args.renumbering.now.placing.now
      c.args.bodies.now.items,
  c.requires.rewritten,
)

pub push_bodies-requires-clause-here : goal.push_bodies-requires-clause-here
push_bodies-requires-clause-here c =
    object_here c.args.renumbering.now.input.now.link.objects c.args.files.now c.loop-object.object
    c.index-files-object.result c.requires.files c.loop-object-test.true c.index-files-object.is

pub loop-object-preserved : goal.loop-object-preserved
loop-object-preserved c =
    let input = c.args.renumbering.now.input.now in (
      objects_more input c.args.renumbering.now.placing.now input.link.objects c.loop-object.object
          c.index-files-object.result c.args.bodies.now.items c.loop-object.bodies.items
          c.push_bodies.new.bodies.items
          (object_here input.link.objects c.args.files.now c.loop-object.object c.index-files-object.result
          c.requires.files c.loop-object-test.true c.index-files-object.is)
          c.loop-object.invariant.0 c.in_ok-push_bodies.ensures.ok,
      c.push_bodies.ensures.rewritten,
    )

pub returns-clause-ok : goal.returns-clause-ok
returns-clause-ok c =
    let input = c.args.renumbering.now.input.now in
    objects_all input c.args.renumbering.now.placing.now c.loop-object.object
    c.args.bodies.now.items c.loop-object.bodies.items
    (subst (λ (os : List Object). length os ≤ c.loop-object.object) c.requires.files
    c.loop-object-test.false)
    c.loop-object.invariant.0
