use Rattle.wildplan.proofs.ReplayLaws.{pushes_more, pushed_all, all_pushed}
use Rattle.wildplan.proofs.replacing.push_all.Goals as goal

pub loop-bytes-preserved : goal.loop-bytes-preserved
loop-bytes-preserved c =
    pushes_more c.args.session.now c.loop-bytes.session c.push.new.self c.args.objects.now c.in_ok-push.ensures.sound.0 c.in-Some.bytes.now c.loop-bytes.invariant (rw c.len.ensures at c.in-Some.ensures.bytes) c.in_ok-push.ensures.sound.1 c.in_ok-push.ensures.pushed

pub returns-clause-ok : goal.returns-clause-ok
returns-clause-ok c =
    pushed_all c.args.session.now c.loop-bytes.session c.args.objects.now c.loop-bytes.invariant (rw c.len.ensures at c.in_default.ensures.bytes)

pub returns-clause-grammar : goal.returns-clause-grammar
returns-clause-grammar c =
    all_pushed c.args.session.now c.loop-bytes.session c.args.objects.now c.loop-bytes.invariant (rw c.len.ensures at c.in_default.ensures.bytes)
