use Rattle.std.proofs.lemmas.Result.{err_from_is_err_and}
use Rattle.wl_symbols.specs.Link.{link_of}
use Rattle.wl_features.proofs.DisallowingLaws.{conflict_clear, conflict_refuses}
use Rattle.wl_features.proofs.FaultLaws.{fault_clear, unchecked_clear, refuses_shared, refuses_conflict}
use Rattle.wl_features.proofs.checking.check_features.Goals as goal
use Rattle.wl_features.proofs.checking.check_features.Goals.{then-args+in_ok-disallowed+in_ok-check_shared+in_ok-check_conflicts, else-args}

pub returns-in_err-check_shared-clause-err : goal.returns-in_err-check_shared-clause-err
returns-in_err-check_shared-clause-err c =
    let residual = c.from_residual-in_err-check_shared in
    let p = err_from_is_err_and residual.result residual.ensures.1 in
    let link = link_of c.args.files.now c.args.args.now in
    rw (p.1, p.2)
    (refuses_shared link c.in_err-check_shared.field-0.0 c.in_ok-check_prefixes.ensures.ok
    (rw c.in_ok-disallowed.ensures at c.in_err-check_shared.ensures.err))

pub returns-in_err-check_conflicts-clause-err : goal.returns-in_err-check_conflicts-clause-err
returns-in_err-check_conflicts-clause-err c =
    let residual = c.from_residual-in_err-check_conflicts in
    let p = err_from_is_err_and residual.result residual.ensures.1 in
    let link = link_of c.args.files.now c.args.args.now in
    let e = c.in_err-check_conflicts.field-0.0 in
    let told = rw (c.as_slice-then-args.ensures, c.in_ok-disallowed.ensures)
    at c.in_err-check_conflicts.ensures.err in
    let shared = rw c.in_ok-disallowed.ensures at c.in_ok-check_shared.ensures.ok in
    rw (p.1, p.2)
    (refuses_conflict link e c.in_ok-check_prefixes.ensures.ok shared
    (conflict_refuses link c.in_ok-names.names c.in_ok-names.ensures c.if-args.true e
    told))

pub returns-clause-clear : goal.returns-clause-clear
returns-clause-clear c =
    let link = link_of c.args.files.now c.args.args.now in
    let known = c.in_ok-check_prefixes.ensures.ok in
    elim c.if-args.branch [
      | then-args+in_ok-disallowed+in_ok-check_shared+in_ok-check_conflicts w ↦
          fault_clear link known
          (rw w.in_ok-disallowed.ensures at w.in_ok-check_shared.ensures.ok)
          (conflict_clear link w.as_slice-then-args.result.now
          (rw w.as_slice-then-args.ensures c.in_ok-names.ensures)
          (rw w.in_ok-disallowed.ensures at w.in_ok-check_conflicts.ensures.ok))
      | else-args w ↦ unchecked_clear link w.if-args.false known
    ]
