use Rattle.std.proofs.Common.{◌≡◌, ◌∙◌}
use Rattle.std.proofs.lemmas.Result.{err_from_is_err_and}
use Rattle.wl_linking.specs.Steps.{Step, NoStep}
use Rattle.wl_bind.specs.Bound.{slot_steps, left_steps}
use Rattle.wl_bind.specs.Shared.{shared_of}
use Rattle.wl_bind.specs.Undefined.{IsUndefinedImport}
use Rattle.wl_bind.specs.Conflicts.{IsStubConflict, IsHostConflict}
use Rattle.wl_linking.proofs.StepLaws.{clear_end, clear_step, refuses_here, refuses_behind, row_refuses, row_behind, row_clear}
use Rattle.wl_bind.proofs.StepLaws.{scan_steps, scan_is_row, scan_clear, slots_are_row, slots_clear}
use Rattle.wl_bind.proofs.SharedLaws.{all_bound}
use Rattle.wl_bind.proofs.StubLaws.{all_joined}
use Rattle.wl_bind.proofs.bound.bind_references.Goals as goal

pub returns-in_err-scan-clause-err : goal.returns-in_err-scan-clause-err
returns-in_err-scan-clause-err c =
    let residual = c.from_residual-in_err-scan in
    let p = err_from_is_err_and residual.result residual.ensures.1 in
    let input = c.args.input.now in
    rw (p.1, p.2)
    (row_refuses (scan_steps input) (scan_is_row input)
    (Step (IsStubConflict input) (left_steps input NoStep))
    c.in_err-scan.field-0.0 c.in_err-scan.ensures.err)

pub returns-in_err-stubs-clause-err : goal.returns-in_err-stubs-clause-err
returns-in_err-stubs-clause-err c =
    let residual = c.from_residual-in_err-stubs in
    let p = err_from_is_err_and residual.result residual.ensures.1 in
    let input = c.args.input.now in
    let e = c.in_err-stubs.field-0.0 in
    let scanned = c.in_ok-scan.ensures in
    rw (p.1, p.2)
    (row_behind (scan_steps input) (scan_is_row input)
    (Step (IsStubConflict input) (left_steps input NoStep)) e
    (scan_clear input scanned.kinds scanned.signatures scanned.undefined)
    (refuses_here (IsStubConflict input) (left_steps input NoStep) e c.in_err-stubs.ensures.err))

pub returns-in_err-report_disallowed_unresolved_imports-clause-err :
    goal.returns-in_err-report_disallowed_unresolved_imports-clause-err
returns-in_err-report_disallowed_unresolved_imports-clause-err c =
    let residual = c.from_residual-in_err-report_disallowed_unresolved_imports in
    let p = err_from_is_err_and residual.result residual.ensures.1 in
    let refused = c.in_err-report_disallowed_unresolved_imports in
    let input = c.args.input.now in
    let scanned = c.in_ok-scan.ensures in
    rw (p.1, p.2)
    (row_behind (slot_steps input) (slots_are_row input) (left_steps input NoStep) refused.field-0.0
    (slots_clear input scanned.kinds scanned.signatures scanned.undefined c.in_ok-stubs.ensures.clear)
    (refuses_here (IsUndefinedImport input) (Step (IsHostConflict input) NoStep) refused.field-0.0
    refused.ensures.err))

pub returns-in_err-check_hosts-clause-err : goal.returns-in_err-check_hosts-clause-err
returns-in_err-check_hosts-clause-err c =
    let residual = c.from_residual-in_err-check_hosts in
    let p = err_from_is_err_and residual.result residual.ensures.1 in
    let e = c.in_err-check_hosts.field-0.0 in
    let input = c.args.input.now in
    let scanned = c.in_ok-scan.ensures in
    rw (p.1, p.2)
    (row_behind (slot_steps input) (slots_are_row input) (left_steps input NoStep) e
    (slots_clear input scanned.kinds scanned.signatures scanned.undefined c.in_ok-stubs.ensures.clear)
    (refuses_behind (IsUndefinedImport input) (Step (IsHostConflict input) NoStep) e
    c.in_ok-report_disallowed_unresolved_imports.ensures.clear
    (refuses_here (IsHostConflict input) NoStep e c.in_err-check_hosts.ensures.err)))

pub returns-clause-ok : goal.returns-clause-ok
returns-clause-ok c =
    let input = c.args.input.now in
    let functions = c.in_ok-functions.ensures in
    let globals = c.in_ok-globals.ensures in
    let rows =
    all_joined input c.in_ok-functions.functions.resolutions.items c.in_ok-globals.globals.resolutions.items
    c.in_ok-rows.rows.items functions.resolutions globals.resolutions c.in_ok-rows.ensures in
    let shared : c.of.result ≡ shared_of input =
    c.of.ensures
    ∙ (λ i. record {
      functions = functions.hosts.imports i;
      globals = globals.hosts.imports i;
      function_places = functions.hosts.places i;
      global_places = globals.hosts.places i;
    }) in
    all_bound input
    (record { functions = c.in_ok-functions.functions.bindings; resolutions = c.new-3.result; scan = c.in_ok-scan.scan; stubs = c.new-4.result; shared = c.of.result })
    functions.bindings (c.new-3.ensures ∙ rows) c.in_ok-scan.ensures.ok (c.new-4.ensures ∙ c.in_ok-stubs.ensures.types) shared

pub returns-clause-clear : goal.returns-clause-clear
returns-clause-clear c =
    let input = c.args.input.now in
    let scanned = c.in_ok-scan.ensures in
    row_clear (slot_steps input) (slots_are_row input) (left_steps input NoStep)
    (slots_clear input scanned.kinds scanned.signatures scanned.undefined c.in_ok-stubs.ensures.clear)
    (clear_step (IsUndefinedImport input) (Step (IsHostConflict input) NoStep)
    c.in_ok-report_disallowed_unresolved_imports.ensures.clear
    (clear_step (IsHostConflict input) NoStep c.in_ok-check_hosts.ensures.clear clear_end))
