use Rattle.std.proofs.lemmas.Result.{err_from_is_err_and}
use Rattle.wildplan.specs.Replacing.{replacement}
use Rattle.wildplan.proofs.replacing.session_after.Goals as goal

pub returns-in_err-replace_all-clause-err : goal.returns-in_err-replace_all-clause-err
returns-in_err-replace_all-clause-err c =
    let p = err_from_is_err_and c.from_residual-in_err-replace_all.result c.from_residual-in_err-replace_all.ensures.1 in
    let grammar = c.in_ok-push_all.ensures.grammar in
    let refused = rw c.as_slice.ensures at c.in_err-replace_all.ensures.err in
    rw (p.1, p.2) (record { cause_is = λ other. replacement grammar.0 grammar.1 (refused.cause_is other) })
