use Rattle.std.proofs.Common.{◌≡◌, ◌≤◌, ℕ, false, length, rules, arith, ap}
use Rattle.std.proofs.lemmas.Result.{err_from_is_err_and}
use Rattle.wl_bind.proofs.MismatchLaws.{one_more, slots_clear}
use Rattle.wl_bind.proofs.signatures.TypeCheck.check_slots.Goals as goal
use Rattle.wl_bind.specs.Signatures.{OnKeptSlot}
use Rattle.wl_bind.specs.BindingSteps.{is_mismatch}

pub loop-i-preserved : goal.loop-i-preserved
loop-i-preserved c =
    let input = c.args.self.now.input.now in
    one_more (λ (k : ℕ). OnKeptSlot input c.args.object k → is_mismatch input c.args.object k ≡ false) c.loop-i.i
    c.in_ok-check_undefined.ensures.clear c.loop-i.invariant

pub returns-clause-clear : goal.returns-clause-clear
returns-clause-clear c =
    let all : length c.symbols-symbols.result.now ≤ c.loop-i.i = search rules in
    slots_clear c.args.self.now.input.now c.args.object c.args.file.now c.requires
    (λ k lt on_slot. c.loop-i.invariant k (omega (arith, lt, all, ap length c.symbols-symbols.ensures)) on_slot)

pub returns-in_err-check_undefined-clause-err : goal.returns-in_err-check_undefined-clause-err
returns-in_err-check_undefined-clause-err c =
    let p = err_from_is_err_and c.from_residual.result c.from_residual.ensures.1 in
    rw (p.1, p.2) c.in_err-check_undefined.ensures.err
