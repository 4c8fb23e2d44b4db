use Rattle.std.proofs.lemmas.Result.{err_from_is_err_and, IfErr-weaker, IfOk-weaker}
use Rattle.wl_words.specs.Texts.{texts}
use Rattle.wildplan.proofs.PlanTextLaws.{objects_answer, objects_refused, plan_refused}
use Rattle.wildplan.proofs.modes.objects_text.Goals as goal

pub returns-in_err-files-clause-err : goal.returns-in_err-files-clause-err
returns-in_err-files-clause-err c =
    let p = err_from_is_err_and c.from_residual.result c.from_residual.ensures.1 in
    rw (p.1, p.2) (objects_refused c.args.args.now c.args.inputs.now c.in_err-files.field-0.0 c.in_err-files.ensures.err)

pub returns-in_err-plan-clause-err : goal.returns-in_err-plan-clause-err
returns-in_err-plan-clause-err c =
    let p = err_from_is_err_and c.from_residual-in_err-plan.result c.from_residual-in_err-plan.ensures.1 in
    rw (p.1, p.2) (plan_refused c.args.args.now c.args.inputs.now c.in_ok-files.files c.in_err-plan.field-0.0 c.requires c.in_ok-files.ensures.ok c.in_err-plan.ensures.err)

pub returns-in_ok-text-in-Listing-clause-ok : goal.returns-in_ok-text-in-Listing-clause-ok
returns-in_ok-text-in-Listing-clause-ok c =
    objects_answer (texts c.args.words.now) c.args.args.now c.args.inputs.now c.in_ok-files.files c.in_ok-plan.plan
    c.in_ok-text-in-Listing.text.items c.requires c.in_ok-files.ensures.ok c.in_ok-plan.ensures.ok
    (rw c.in-Listing.is c.in_ok-text-in-Listing.ensures.text)

pub returns-in-Generate : goal.returns-in-Generate
returns-in-Generate c = record {
  ok = IfOk-weaker c.mode_text.result _ _
      (λ text h. objects_answer (texts c.args.words.now) c.args.args.now c.args.inputs.now c.in_ok-files.files
      c.in_ok-plan.plan text.items c.requires c.in_ok-files.ensures.ok c.in_ok-plan.ensures.ok h)
      (rw c.compared.ensures at c.mode_text.ensures.ok);
  err = IfErr-weaker c.mode_text.result _ _
      (λ e h. record { cause_is = λ other. absurd (h.cause_is other) }) c.mode_text.ensures.err;
}
