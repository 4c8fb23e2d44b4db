use Rattle.std.proofs.Common.{map}
use Rattle.std.proofs.lemmas.Result.{err_from_is_err_and}
use Rattle.wl_bind.specs.GlobalSpace.{DataOf}
use Rattle.wl_linking.proofs.StepLaws.{refuses_memory}
use Rattle.wl_plan.specs.steps.Globals.{IsPartFault}
use Rattle.wl_plan.proofs.GlobalParts.{adds_made, adds_none, adds_more, adds_all, refuses_one, refuses_start}
use Rattle.wl_plan.proofs.globals.push_data.Goals as goal

pub loop-datum-init : goal.loop-datum-init
loop-datum-init c = adds_none c.args.sources.now c.args.globals.now.items

pub loop-datum-preserved : goal.loop-datum-preserved
loop-datum-preserved c =
    let s = c.args.sources.now in
    adds_more s DataOf c.args.exported.now c.loop-datum.datum-index _
    c.loop-datum-test.true c.loop-datum.invariant
    (adds_made s (DataOf _) c.in_ok-start.start _ _ (λ m x. x)
    c.in_ok-start.ensures c.in_ok-push_made.ensures)

pub returns-in_err-start-clause-err : goal.returns-in_err-start-clause-err
returns-in_err-start-clause-err c =
    let p = err_from_is_err_and c.from_residual.result c.from_residual.ensures.1 in
    let s = c.args.sources.now in
    rw (p.1, p.2)
    (refuses_one s DataOf c.args.exported.now c.loop-datum.datum-index _ c.loop-datum-test.true
    (refuses_start s (DataOf _) c.in_err-start.field-0.0 c.in_err-start.ensures))

pub returns-in_err-push_made-clause-err : goal.returns-in_err-push_made-clause-err
returns-in_err-push_made-clause-err c =
    let residual = c.from_residual-in_err-push_made in
    let p = err_from_is_err_and residual.result residual.ensures.1 in
    let s = c.args.sources.now in
    rw p.1 (refuses_memory (IsPartFault s (map DataOf c.args.exported.now)) p.0 p.2)

pub returns-clause-ok : goal.returns-clause-ok
returns-clause-ok c =
    adds_all c.args.sources.now DataOf c.args.exported.now c.loop-datum.datum-index
    c.loop-datum-test.false c.loop-datum.invariant
