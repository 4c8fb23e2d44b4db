use Rattle.std.proofs.lemmas.Result.{err_from_is_err_and}
use Rattle.wl_plan.proofs.PlannedLaws.{laid_clear, laid_refuses, place_refuses}
use Rattle.wl_plan.proofs.plan.laid_parts.Goals as goal

pub returns-in_err-placing-clause-err : goal.returns-in_err-placing-clause-err
returns-in_err-placing-clause-err c =
    let p = err_from_is_err_and c.from_residual.result c.from_residual.ensures.1 in
    rw (p.1, p.2)
    (place_refuses c.args.input.now c.in_err-placing.field-0.0 c.in_err-placing.ensures.err)

pub returns-in_err-maps-clause-err : goal.returns-in_err-maps-clause-err
returns-in_err-maps-clause-err c =
    let residual = c.from_residual-in_err-maps in
    let p = err_from_is_err_and residual.result residual.ensures.1 in
    rw (p.1, p.2)
    (laid_refuses c.args.input.now c.in_ok-placing.placing c.in_err-maps.field-0.0
    c.in_ok-placing.ensures.ok c.in_ok-placing.ensures.clear c.in_err-maps.ensures.err)

pub returns-clause-clear : goal.returns-clause-clear
returns-clause-clear c =
    laid_clear c.placings_are_one.ensures c.args.input.now c.in_ok-placing.placing
    c.in_ok-placing.ensures.ok c.in_ok-placing.ensures.clear c.in_ok-maps.ensures.clear
