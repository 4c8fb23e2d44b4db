use Rattle.std.proofs.lemmas.Result.{err_from_is_err_and}
use Rattle.std.proofs.Common.{inl, inr}
use Rattle.wl_bind.proofs.indices.LinkerDefinedIndices.compute.Goals as goal

pub returns-in_err-needs-clause-err : goal.returns-in_err-needs-clause-err
returns-in_err-needs-clause-err c =
    let p = err_from_is_err_and c.from_residual.result c.from_residual.ensures.1 in
    rw (p.1, p.2) (inl tt)

pub returns-in_err-functions-clause-err : goal.returns-in_err-functions-clause-err
returns-in_err-functions-clause-err c =
    let residual = c.from_residual-in_err-functions in
    let p = err_from_is_err_and residual.result residual.ensures.1 in
    rw (p.1, p.2) (inl c.in_err-functions.ensures.err)

pub returns-in_err-exported-clause-err : goal.returns-in_err-exported-clause-err
returns-in_err-exported-clause-err c =
    let residual = c.from_residual-in_err-exported in
    let p = err_from_is_err_and residual.result residual.ensures.1 in
    rw (p.1, p.2) (inl tt)

pub returns-in_err-globals-clause-err : goal.returns-in_err-globals-clause-err
returns-in_err-globals-clause-err c =
    let residual = c.from_residual-in_err-globals in
    let p = err_from_is_err_and residual.result residual.ensures.1 in
    rw (p.1, p.2) (inr c.in_err-globals.ensures.err)
