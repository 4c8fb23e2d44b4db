use Rattle.std.proofs.Common.{[], refl, ap, set, length-set}
use Rattle.std.proofs.lemmas.Result.{err_from_is_err_and}
use Rattle.wl_data.specs.Layouts.{HasNoRoom}
use Rattle.wl_data.specs.DataPlaces.{in_one_row}
use Rattle.wl_linking.proofs.StepLaws.{refuses_more}
use Rattle.wl_data.proofs.ObjectLaws.{grows_by_nothing, grows_more, passes_objects}
use Rattle.wl_data.proofs.placing.append_objects.Goals as goal

pub loop-index-init : goal.loop-index-init
loop-index-init c = record {
  laid = ([], refl, grows_by_nothing c.args.layouts.now.items);
  count = c.requires.each;
}

pub returns-in_err-more-clause-err : goal.returns-in_err-more-clause-err
returns-in_err-more-clause-err c =
    let p = err_from_is_err_and c.from_residual.result c.from_residual.ensures.1 in
    let laid = c.loop-index.invariant.laid in
    let there = passes_objects c.args.pass c.args.objects.now c.loop-index.index c.index-objects-index.result c.args.frontier.now c.loop-index.frontier laid.0 c.loop-index-test.true c.index-objects-index.is c.requires.sound laid.1 in
    rw (p.1, p.2) (refuses_more (HasNoRoom c.args.pass c.index-objects-index.result c.loop-index.frontier) (HasNoRoom c.args.pass (in_one_row c.args.objects.now) c.args.frontier.now) _ (λ x. (x.0, there x.1)) (rw c.as_slice.ensures at c.in_err-more.ensures.err))

pub loop-index-preserved : goal.loop-index-preserved
loop-index-preserved c = record {
  laid = grows_more c.args.pass c.args.objects.now c.loop-index.index c.index-objects-index.result c.args.frontier.now c.loop-index.frontier c.lay_out.new.frontier c.args.layouts.now.items c.loop-index.layouts.items _ c.index_mut.result.now c.in_ok-more.more.items
      c.loop-index-test.true c.index-objects-index.is c.requires.each c.loop-index.invariant.laid (rw c.as_slice.ensures at c.in_ok-more.ensures.ok) c.index_mut.ensures.value (ap (set c.loop-index.layouts.items c.loop-index.index) c.in_ok-append.ensures.ok);
  count = rw length-set c.loop-index.invariant.count;
}
