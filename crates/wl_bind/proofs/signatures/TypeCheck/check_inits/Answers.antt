use Rattle.std.proofs.Common.{length, rules, arith, ap}
use Rattle.wl_bind.specs.Signatures.{IsMismatch}
use Rattle.wl_bind.proofs.MismatchLaws.{init_at, inits_clear}
use Rattle.wl_bind.proofs.signatures.TypeCheck.check_inits.Goals as goal

pub returns-in_err-check_symbol-clause-err : goal.returns-in_err-check_symbol-clause-err
returns-in_err-check_symbol-clause-err c =
    let input = c.args.self.now.input.now in
    let e = c.in_err-check_symbol.field-0.0 in
    let told : IsMismatch input e =
    init_at input c.args.object c.args.file.now c.loop-function.function-index _ c.init_funcs-function-items.result.now e c.requires c.init_funcs-function-items.ensures c.loop-function-test.true c.in_err-check_symbol.ensures.err in
    search rules

pub returns-clause-clear : goal.returns-clause-clear
returns-clause-clear c =
    let all = c.loop-function-test.false in
    let same = ap length c.init_funcs-function-items.ensures in
    inits_clear c.args.self.now.input.now c.args.object c.args.file.now c.requires
    (λ k f lt at_f. c.loop-function.invariant k f (omega (arith, lt, all, same)) at_f)
