use Rattle.std.proofs.lemmas.Result.{err_from_is_err_and}
use Rattle.wl_data.specs.Layouts.{HasNoRoom}
use Rattle.wl_data.specs.DataPlaces.{in_one_row}
use Rattle.wl_linking.proofs.StepLaws.{refuses_more, refuses_memory}
use Rattle.wl_data.proofs.ObjectLaws.{objects_more, passes_objects}
use Rattle.wl_data.proofs.placing.lay_objects.Goals as goal

pub returns-in_err-more-clause-err : goal.returns-in_err-more-clause-err
returns-in_err-more-clause-err c =
    let p = err_from_is_err_and c.from_residual.result c.from_residual.ensures.1 in
    let there = passes_objects c.args.pass c.args.objects.now c.loop-object.object-index c.object-item.result c.args.frontier.now c.loop-object.frontier c.loop-object.layouts.items c.loop-object-test.true c.object-item.is c.requires c.loop-object.invariant in
    rw (p.1, p.2) (refuses_more (HasNoRoom c.args.pass c.object-item.result c.loop-object.frontier) (HasNoRoom c.args.pass (in_one_row c.args.objects.now) c.args.frontier.now) _ (λ x. (x.0, there x.1)) (rw c.as_slice.ensures at c.in_err-more.ensures.err))

pub returns-in_err-push-clause-err : goal.returns-in_err-push-clause-err
returns-in_err-push-clause-err c =
    let p = err_from_is_err_and c.from_residual-in_err-push.result c.from_residual-in_err-push.ensures.1 in
    rw p.1 (refuses_memory _ p.0 p.2)

pub loop-object-preserved : goal.loop-object-preserved
loop-object-preserved c =
    rw (c.in_ok-push.ensures.items, c.new.ensures)
    (objects_more c.args.pass c.args.objects.now c.loop-object.object-index c.object-item.result c.args.frontier.now c.loop-object.frontier c.lay_out.new.frontier c.loop-object.layouts.items c.in_ok-more.more.items c.loop-object-test.true c.object-item.is c.loop-object.invariant (rw c.as_slice.ensures at c.in_ok-more.ensures.ok))
