use Rattle.std.proofs.Common.{◌∙◌, ap, subst}
use Rattle.std.proofs.lemmas.Result.{err_from_is_err_and}
use Rattle.wl_linking.specs.Steps.{Clear, Refuses}
use Rattle.wl_symbols.specs.Input.{Input}
use Rattle.wl_bind.specs.Kinds.{IsWrongKind}
use Rattle.wl_bind.specs.Scan.{scan_of}
use Rattle.wl_bind.specs.ScanFaults.{scan_fault}
use Rattle.wl_bind.specs.steps.Scanning.{scan_part}
use Rattle.wl_bind.specs.Signatures.{IsMismatch}
use Rattle.wl_bind.specs.Undefined.{IsUndefinedData}
use Rattle.wl_bind.proofs.ScanLaws.{scan_found}
use Rattle.wl_bind.proofs.scanning.scan_with.Goals as goal

pub returns-in_err-check_found-clause-err : goal.returns-in_err-check_found-clause-err
returns-in_err-check_found-clause-err c =
    let residual = c.from_residual-in_err-check_found in
    let p = err_from_is_err_and residual.result residual.ensures.1 in
    rw (p.1, p.2)
    (subst (λ (i : Input). Refuses (scan_fault i) c.in_err-check_found.field-0.0) c.in_ok-check.ensures.input
    c.in_err-check_found.ensures.err)

pub returns-clause-ok : goal.returns-clause-ok
returns-clause-ok c =
    c.in_ok-into_scan.ensures ∙ ap scan_part c.in_ok-found.ensures ∙ scan_found c.in_ok-check.check.input.now
    ∙ ap scan_of c.in_ok-check.ensures.input

pub returns-clause-kinds : goal.returns-clause-kinds
returns-clause-kinds c =
    subst (λ (i : Input). Clear (IsWrongKind i)) c.in_ok-check.ensures.input c.in_ok-check_found.ensures.kinds

pub returns-clause-signatures : goal.returns-clause-signatures
returns-clause-signatures c =
    subst (λ (i : Input). Clear (IsMismatch i)) c.in_ok-check.ensures.input c.in_ok-check_found.ensures.signatures

pub returns-clause-undefined : goal.returns-clause-undefined
returns-clause-undefined c =
    subst (λ (i : Input). Clear (IsUndefinedData i)) c.in_ok-check.ensures.input c.in_ok-check_found.ensures.undefined
