use Rattle.wl_symbols.specs.Relocations.{relocations}
use Rattle.std.proofs.Common.{◌∙◌, ap}
use Rattle.std.proofs.lemmas.Result.{err_from_is_err_and}
use Rattle.wl_linking.specs.Steps.{here, behind, Refuses}
use Rattle.wl_bind.specs.ScanFaults.{scan_fault}
use Rattle.wl_bind.specs.steps.Scanning.{Found, nothing_found}
use Rattle.wl_bind.proofs.ScanLaws.{wrong_from, mismatch_from, undefined_from}
use Rattle.wl_bind.proofs.scanning.check_found.Goals as goal

pub check_kinds-requires-clause-wrong : goal.check_kinds-requires-clause-wrong
check_kinds-requires-clause-wrong c = ap (λ (f : Found). f.wrong) c.requires ∙ wrong_from c.args.check.now.input.now (relocations c.args.check.now.input.now) nothing_found

pub check-requires : goal.check-requires
check-requires c = ap (λ (f : Found). f.mismatch) c.requires ∙ mismatch_from c.args.check.now.input.now (relocations c.args.check.now.input.now) nothing_found

pub check_undefined_data-requires : goal.check_undefined_data-requires
check_undefined_data-requires c = ap (λ (f : Found). f.undefined) c.requires ∙ undefined_from c.args.check.now.input.now (relocations c.args.check.now.input.now) nothing_found

pub returns-in_err-check_kinds-clause-err : goal.returns-in_err-check_kinds-clause-err
returns-in_err-check_kinds-clause-err c =
    let p = err_from_is_err_and c.from_residual.result c.from_residual.ensures.1 in
    let refuses : Refuses (scan_fault c.args.check.now.input.now) c.in_err-check_kinds.field-0.0 = record {
      cause_is = λ other. here c.in_err-check_kinds.ensures.err;
    } in
    rw (p.1, p.2) refuses

pub returns-in_err-check-clause-err : goal.returns-in_err-check-clause-err
returns-in_err-check-clause-err c =
    let residual = c.from_residual-in_err-check in
    let p = err_from_is_err_and residual.result residual.ensures.1 in
    let refuses : Refuses (scan_fault c.args.check.now.input.now) c.in_err-check.field-0.0 = record {
      cause_is = λ other. behind c.in_ok-check_kinds.ensures.clear (here c.in_err-check.ensures.err);
    } in
    rw (p.1, p.2) refuses

pub returns-in_err-check_undefined_data-clause-err : goal.returns-in_err-check_undefined_data-clause-err
returns-in_err-check_undefined_data-clause-err c =
    let residual = c.from_residual-in_err-check_undefined_data in
    let p = err_from_is_err_and residual.result residual.ensures.1 in
    let e = c.in_err-check_undefined_data.field-0.0 in
    let refuses : Refuses (scan_fault c.args.check.now.input.now) e = record {
      cause_is = λ other. behind c.in_ok-check_kinds.ensures.clear
          (behind c.in_ok-check.ensures.clear (here (c.in_err-check_undefined_data.ensures.err.cause_is other)));
    } in
    rw (p.1, p.2) refuses
