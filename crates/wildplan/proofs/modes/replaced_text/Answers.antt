use Rattle.std.proofs.lemmas.Result.{err_from_is_err_and, IfOk-weaker, IfErr-weaker}
use Rattle.wl_words.specs.Texts.{texts}
use Rattle.wildplan.proofs.PlanTextLaws.{replaced_plan, replaced_answer, replaced_refused, never_refused}
use Rattle.wildplan.proofs.modes.replaced_text.Goals as goal

pub mode_text-requires : goal.mode_text-requires
mode_text-requires c =
    replaced_plan c.args.args.now c.args.inputs.now c.in_ok-session.session c.files.result.now c.in_ok-plan.plan c.in_ok-session.ensures.held (c.in_ok-plan.ensures.planned c.files.result.now c.files.ensures)

pub returns-in_err-plan-clause-err : goal.returns-in_err-plan-clause-err
returns-in_err-plan-clause-err c =
    let p = err_from_is_err_and c.from_residual-in_err-plan.result c.from_residual-in_err-plan.ensures.1 in
    rw (p.1, p.2) (replaced_refused c.args.args.now c.args.inputs.now c.in_ok-session.session c.in_err-plan.field-0.0 c.in_ok-session.ensures.held c.in_ok-session.ensures.sound c.in_err-plan.ensures.err)

pub returns-clause-ok : goal.returns-clause-ok
returns-clause-ok c =
    let is_plan = replaced_plan c.args.args.now c.args.inputs.now c.in_ok-session.session c.files.result.now c.in_ok-plan.plan c.in_ok-session.ensures.held (c.in_ok-plan.ensures.planned c.files.result.now c.files.ensures) in
    IfOk-weaker c.mode_text.result _ _
    (λ text h. replaced_answer (texts c.args.words.now) c.args.args.now c.args.inputs.now c.in_ok-session.session c.files.result.now c.in_ok-plan.plan text.items c.in_ok-session.ensures.held c.in_ok-session.ensures.sound c.files.ensures is_plan h)
    (rw c.compared.ensures at c.mode_text.ensures.ok)

pub returns-clause-err : goal.returns-clause-err
returns-clause-err c = IfErr-weaker c.mode_text.result _ _ (λ e h. never_refused c.args.args.now c.args.inputs.now e h) c.mode_text.ensures.err
