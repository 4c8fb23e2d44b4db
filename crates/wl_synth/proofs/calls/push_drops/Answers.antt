use Rattle.std.proofs.Common.{◌≡◌, ◌-◌, ◌+◌, suc, arith, append_assoc}
use Rattle.wl_synth.proofs.calls.push_drops.Goals as goal

pub loop-preserved : goal.loop-preserved
loop-preserved c =
    let less : c.args.count - c.loop.counter ≡ suc (c.args.count - (c.loop.counter + 1)) = omega arith in
    let before = rw less at c.loop.invariant in
    rw (c.in_ok-push.ensures, append_assoc) before
