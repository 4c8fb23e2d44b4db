use Rattle.wl_plan.proofs.SessionLaws.{one_replaced_held, bad_bytes, no_bad_bytes}
use Rattle.wl_plan.proofs.session.Session.replace.Goals as goal

pub returns-in_ok-replace-in-Ok-clause-replaced : goal.returns-in_ok-replace-in-Ok-clause-replaced
returns-in_ok-replace-in-Ok-clause-replaced c =
    rw c.in_ok-replace-in-Ok.ensures.replaced
    (one_replaced_held c.args.self.now c.self.inside.kept c.self.inside.args.now c.args.object c.in-Ok.file c.args.bytes.now c.self.view_is c.in-Ok.ensures.sound)

pub returns-in_ok-replace-in-Ok-clause-clear : goal.returns-in_ok-replace-in-Ok-clause-clear
returns-in_ok-replace-in-Ok-clause-clear c =
    no_bad_bytes c.object_or_fault.ensures.either c.args.object c.args.bytes.now c.in-Ok.file c.in-Ok.ensures.sound

pub returns-in-Err-clause-err : goal.returns-in-Err-clause-err
returns-in-Err-clause-err c =
    rw c.link_error.ensures (bad_bytes c.args.object c.args.bytes.now c.in-Err.error c.in-Err.ensures.fault)
