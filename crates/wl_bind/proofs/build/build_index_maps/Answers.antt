use Rattle.std.proofs.lemmas.Result.{err_from_is_err_and}
use Rattle.wl_linking.specs.Steps.{Step, NoStep}
use Rattle.wl_bind.specs.Bound.{bind_steps}
use Rattle.wl_bind.specs.SpaceFaults.{IsSpaceTooLarge}
use Rattle.wl_linking.proofs.StepLaws.{clear_end, clear_step, refuses_here, row_refuses, row_behind, row_clear}
use Rattle.wl_bind.proofs.StepLaws.{binding_is_row}
use Rattle.wl_bind.proofs.build.build_index_maps.Goals as goal

pub returns-in_err-bound-clause-err : goal.returns-in_err-bound-clause-err
returns-in_err-bound-clause-err c =
    let p = err_from_is_err_and c.from_residual.result c.from_residual.ensures.1 in
    let input = c.args.input.now in
    rw (p.1, p.2)
    (row_refuses (bind_steps input) (binding_is_row input) (Step (IsSpaceTooLarge input) NoStep)
    c.in_err-bound.field-0.0 c.in_err-bound.ensures.err)

pub returns-in_err-indices-clause-err : goal.returns-in_err-indices-clause-err
returns-in_err-indices-clause-err c =
    let residual = c.from_residual-in_err-indices in
    let p = err_from_is_err_and residual.result residual.ensures.1 in
    let input = c.args.input.now in
    let e = c.in_err-indices.field-0.0 in
    rw (p.1, p.2)
    (row_behind (bind_steps input) (binding_is_row input) (Step (IsSpaceTooLarge input) NoStep) e
    c.in_ok-bound.ensures.clear
    (refuses_here (IsSpaceTooLarge input) NoStep e c.in_err-indices.ensures.err))

pub returns-clause-clear : goal.returns-clause-clear
returns-clause-clear c =
    let input = c.args.input.now in
    row_clear (bind_steps input) (binding_is_row input) (Step (IsSpaceTooLarge input) NoStep)
    c.in_ok-bound.ensures.clear
    (clear_step (IsSpaceTooLarge input) NoStep c.in_ok-indices.ensures.clear clear_end)
