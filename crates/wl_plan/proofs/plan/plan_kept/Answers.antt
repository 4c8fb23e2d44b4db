use Rattle.std.proofs.lemmas.Result.{err_from_is_err_and}
use Rattle.wl_plan.proofs.PlanLaws.{few_by, settled_by, signatures_by}
use Rattle.wl_plan.proofs.PlannedLaws.{behind_refuses, index_refuses, kept_clear, wrapper_refuses, wrapper_room}
use Rattle.wl_plan.proofs.plan.plan_kept.Goals as goal

pub returns-in_err-bound-clause-err : goal.returns-in_err-bound-clause-err
returns-in_err-bound-clause-err c =
    let residual = c.from_residual in
    let p = err_from_is_err_and residual.result residual.ensures.1 in
    rw (p.1, p.2)
    (index_refuses c.args.input.now c.in_err-bound.field-0.0 c.in_err-bound.ensures.err)

pub outline_of-requires-clause-settled : goal.outline_of-requires-clause-settled
outline_of-requires-clause-settled c =
    settled_by c.args.input.now c.requires.sound c.in_ok-bound.ensures.clear

pub outline_of-requires-clause-signatures : goal.outline_of-requires-clause-signatures
outline_of-requires-clause-signatures c =
    signatures_by c.args.input.now c.in_ok-bound.ensures.clear

pub outline_of-requires-clause-bound : goal.outline_of-requires-clause-bound
outline_of-requires-clause-bound c = c.in_ok-bound.ensures.ok

pub outline_of-requires-clause-few : goal.outline_of-requires-clause-few
outline_of-requires-clause-few c = few_by c.args.input.now c.in_ok-bound.ensures.clear

pub returns-in_err-outline-clause-err : goal.returns-in_err-outline-clause-err
returns-in_err-outline-clause-err c =
    let residual = c.from_residual-in_err-outline in
    let p = err_from_is_err_and residual.result residual.ensures.1 in
    rw (p.1, p.2)
    (wrapper_refuses c.args.input.now c.in_err-outline.field-0.0 c.in_ok-bound.ensures.clear
    c.in_err-outline.ensures.err)

pub laid_parts-requires-clause-few : goal.laid_parts-requires-clause-few
laid_parts-requires-clause-few c = few_by c.args.input.now c.in_ok-bound.ensures.clear

pub laid_parts-requires-clause-wrapper_room : goal.laid_parts-requires-clause-wrapper_room
laid_parts-requires-clause-wrapper_room c =
    wrapper_room c.args.input.now c.in_ok-outline.ensures.clear

pub returns-in_err-placing-clause-err : goal.returns-in_err-placing-clause-err
returns-in_err-placing-clause-err c =
    let residual = c.from_residual-in_err-placing in
    let p = err_from_is_err_and residual.result residual.ensures.1 in
    rw (p.1, p.2)
    (behind_refuses c.args.input.now c.in_err-placing.field-0.0
    (record { indexed = c.in_ok-bound.ensures.clear; few = c.in_ok-outline.ensures.clear })
    c.in_err-placing.ensures.err)

pub returns-clause-clear : goal.returns-clause-clear
returns-clause-clear c =
    kept_clear c.args.input.now
    (record { indexed = c.in_ok-bound.ensures.clear; few = c.in_ok-outline.ensures.clear })
    c.in_ok-placing.ensures.clear
