use Rattle.std.proofs.lemmas.Result.{err_from_is_err_and}
use Rattle.wl_plan.proofs.SessionLaws.{session_err, session_ok, session_planned, session_refuses, session_repeats}
use Rattle.wl_plan.proofs.session.Session.plan.Goals as goal

pub returns-in_err-symbols-clause-err : goal.returns-in_err-symbols-clause-err
returns-in_err-symbols-clause-err c =
    let p = err_from_is_err_and c.from_residual.result c.from_residual.ensures.1 in
    rw (p.1, p.2)
    (session_repeats c.args.self.now c.self.inside.kept c.files-files.result.now
    c.self.inside.args.now c.in_err-symbols.field-0.0 c.self.view_is c.files-files.ensures
    c.objects_are_whole.ensures c.in_err-symbols.ensures.err)

pub returns-in_err-known-clause-err : goal.returns-in_err-known-clause-err
returns-in_err-known-clause-err c =
    let residual = c.from_residual-in_err-known in
    let p = err_from_is_err_and residual.result residual.ensures.1 in
    rw (p.1, p.2)
    (session_refuses c.args.self.now c.self.inside.kept c.files-files.result.now
    c.self.inside.args.now c.in_err-known.field-0.0 c.self.view_is c.files-files.ensures
    c.objects_are_whole.ensures c.in_err-known.ensures.err)

pub returns-clause-ok : goal.returns-clause-ok
returns-clause-ok c =
    session_ok c.args.self.now c.self.inside.kept c.files-files.result.now c.self.inside.args.now
    c.plan_known.result c.self.view_is c.files-files.ensures c.objects_are_whole.ensures
    c.plan_known.ensures.ok

pub returns-clause-planned : goal.returns-clause-planned
returns-clause-planned c =
    session_planned c.object_or_fault.ensures.one c.args.self.now c.self.inside.kept
    c.files-files.result.now c.self.inside.args.now c.plan_known.result c.self.view_is
    c.files-files.ensures c.objects_are_whole.ensures c.plan_known.ensures.ok

pub returns-clause-err : goal.returns-clause-err
returns-clause-err c =
    session_err c.args.self.now c.self.inside.kept c.files-files.result.now c.self.inside.args.now
    c.plan_known.result c.self.view_is c.files-files.ensures c.objects_are_whole.ensures
    c.plan_known.ensures.err
