use Rattle.std.proofs.Common.{length}
use Rattle.wl_plan.proofs.SessionLaws.{one_more_held, bad_bytes, no_bad_bytes}
use Rattle.wl_plan.proofs.session.Session.push.Goals as goal

pub returns-in_ok-push-in-Ok-clause-clear : goal.returns-in_ok-push-in-Ok-clause-clear
returns-in_ok-push-in-Ok-clause-clear c =
    no_bad_bytes c.object_or_fault.ensures.either (length c.args.self.now.objects) c.args.bytes.now c.in-Ok.file c.in-Ok.ensures.sound

pub returns-in-Err-clause-err : goal.returns-in-Err-clause-err
returns-in-Err-clause-err c =
    rw (c.link_error.ensures, c.len-place.ensures) (bad_bytes (length c.args.self.now.objects) c.args.bytes.now c.in-Err.error c.in-Err.ensures.fault)

pub returns-in_ok-push-in-Ok-clause-pushed : goal.returns-in_ok-push-in-Ok-clause-pushed
returns-in_ok-push-in-Ok-clause-pushed c =
    rw c.in_ok-push-in-Ok.ensures.pushed
    (one_more_held c.args.self.now c.self.inside.kept c.self.inside.args.now c.in-Ok.file c.args.bytes.now c.self.view_is c.in-Ok.ensures.sound)
