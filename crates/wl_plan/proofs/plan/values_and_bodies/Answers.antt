use Rattle.std.proofs.lemmas.Result.{err_from_is_err_and}
use Rattle.wl_plan.specs.Fixups.{IsFixupFault}
use Rattle.wl_plan.specs.Globals.{IsGlobalFault}
use Rattle.wl_plan.proofs.PlanLaws.{body_refuses, first_of_both, number_refuses}
use Rattle.wl_plan.proofs.plan.values_and_bodies.Goals as goal

pub returns-in_err-values-clause-err : goal.returns-in_err-values-clause-err
returns-in_err-values-clause-err c =
    let residual = c.from_residual-in_err-values in
    let p = err_from_is_err_and residual.result residual.ensures.1 in
    let input = c.args.things.now.input.now in
    let g = c.args.things.now.placing.now in
    rw (p.1, p.2) (number_refuses input g c.in_err-values.field-0.0 c.in_err-values.ensures.err)

pub returns-in_err-bodies-clause-err : goal.returns-in_err-bodies-clause-err
returns-in_err-bodies-clause-err c =
    let residual = c.from_residual-in_err-bodies in
    let p = err_from_is_err_and residual.result residual.ensures.1 in
    let input = c.args.things.now.input.now in
    let g = c.args.things.now.placing.now in
    rw (p.1, p.2) (body_refuses input g c.in_err-bodies.field-0.0 c.in_err-bodies.ensures.err)

pub output_bodies-requires-clause-globals : goal.output_bodies-requires-clause-globals
output_bodies-requires-clause-globals c =
    let input = c.args.things.now.input.now in
    let g = c.args.things.now.placing.now in
    first_of_both (IsGlobalFault input g) (IsFixupFault input g) c.in_ok-values.ensures.clear
