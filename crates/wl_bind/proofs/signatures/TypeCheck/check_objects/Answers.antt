use Rattle.std.proofs.Common.{◌≤◌, length, rules, inl, inr}
use Rattle.std.proofs.lemmas.Result.{err_from_is_err_and}
use Rattle.wl_bind.proofs.MismatchLaws.{one_more, own_all}
use Rattle.wl_bind.proofs.signatures.TypeCheck.check_objects.Goals as goal
use Rattle.wl_bind.specs.BindingSteps.{AreOwnClear}

pub loop-object-preserved : goal.loop-object-preserved
loop-object-preserved c =
    one_more (AreOwnClear c.args.self.now.input.now) c.loop-object.object (λ number looked. elim looked [
      | inl on_slot ↦ c.in_ok-check_slots.ensures.clear number on_slot
      | inr named ↦ c.in_ok-check_inits.ensures.clear number named
    ]) c.loop-object.invariant

pub returns-clause-clear : goal.returns-clause-clear
returns-clause-clear c =
    let all : length c.args.self.now.input.now.link.objects ≤ c.loop-object.object = search rules in
    own_all c.args.self.now.input.now c.loop-object.object all c.loop-object.invariant

pub returns-in_err-check_slots-clause-err : goal.returns-in_err-check_slots-clause-err
returns-in_err-check_slots-clause-err c =
    let p = err_from_is_err_and c.from_residual.result c.from_residual.ensures.1 in
    rw (p.1, p.2) c.in_err-check_slots.ensures.err

pub returns-in_err-check_inits-clause-err : goal.returns-in_err-check_inits-clause-err
returns-in_err-check_inits-clause-err c =
    let residual = c.from_residual-in_err-check_inits in
    let p = err_from_is_err_and residual.result residual.ensures.1 in
    rw (p.1, p.2) c.in_err-check_inits.ensures.err
