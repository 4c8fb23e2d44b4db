use Rattle.std.proofs.lemmas.Result.{err_from_is_err_and}
use Rattle.std.proofs.Common.{inl, inr}
use Rattle.wl_bind.proofs.IndexLaws.{functions_over, globals_over, space_refuses, types_refuse}
use Rattle.wl_bind.proofs.build.index_things.Goals as goal

pub returns-in_err-indices-clause-err : goal.returns-in_err-indices-clause-err
returns-in_err-indices-clause-err c =
    let p = err_from_is_err_and c.from_residual.result c.from_residual.ensures.1 in
    let refused = c.in_err-indices in
    rw (p.1, p.2) (space_refuses c.args.input.now refused.field-0.0 (elim refused.ensures.err [
      | inl functions ↦ functions_over c.args.input.now refused.field-0.0 functions
      | inr globals ↦ globals_over c.args.input.now refused.field-0.0 globals
    ]))

pub returns-in_err-types-clause-err : goal.returns-in_err-types-clause-err
returns-in_err-types-clause-err c =
    let residual = c.from_residual-in_err-types in
    let p = err_from_is_err_and residual.result residual.ensures.1 in
    let refused = c.in_err-types in
    rw (p.1, p.2) (types_refuse c.args.input.now refused.field-0.0 refused.ensures.err)

pub returns-in_err-maps-clause-err : goal.returns-in_err-maps-clause-err
returns-in_err-maps-clause-err c =
    let residual = c.from_residual-in_err-maps in
    let p = err_from_is_err_and residual.result residual.ensures.1 in
    let refused = c.in_err-maps in
    rw (p.1, p.2) (space_refuses c.args.input.now refused.field-0.0 refused.ensures.err)
