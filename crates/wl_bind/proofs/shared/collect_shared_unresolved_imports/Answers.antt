use Rattle.std.proofs.lemmas.Result.{err_from_is_err_and}
use Rattle.wl_bind.proofs.shared.collect_shared_unresolved_imports.Goals as goal

pub returns-in_err-check_hosts-clause-err : goal.returns-in_err-check_hosts-clause-err
returns-in_err-check_hosts-clause-err c =
    let residual = c.from_residual-in_err-check_hosts in
    let p = err_from_is_err_and residual.result residual.ensures.1 in
    rw (p.1, p.2) c.in_err-check_hosts.ensures.err
