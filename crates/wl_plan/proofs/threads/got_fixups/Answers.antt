use Rattle.std.proofs.Common.{arith}
use Rattle.wl_plan.proofs.GotLaws.{got_all, got_step}
use Rattle.wl_plan.proofs.threads.got_fixups.Goals as goal

pub loop-place-preserved : goal.loop-place-preserved
loop-place-preserved c =
    let s = c.args.sources.now in
    got_step s.book.now.input.now s.book.now.placing.now c.loop-place.place c.loop-place.fixups.items
    c.push_got.new.fixups.items c.loop-place.invariant (omega arith) c.in_ok-push_got.ensures.ok

pub returns-clause-ok : goal.returns-clause-ok
returns-clause-ok c =
    let s = c.args.sources.now in
    got_all s.book.now.input.now s.book.now.placing.now c.loop-place.place c.loop-place.fixups.items c.loop-place.invariant
    (omega arith)
