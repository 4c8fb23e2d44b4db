use Rattle.std.proofs.Common.{◌≡◌, ◌-◌, suc, arith, append_assoc, add-one}
use Rattle.wl_synth.proofs.calls.push_parameters.Goals as goal

pub loop-local-preserved : goal.loop-local-preserved
loop-local-preserved c =
    let less : c.args.count - c.loop-local.local ≡ suc (c.args.count - suc c.loop-local.local) = omega arith in
    let before = rw less at c.loop-local.invariant in
    rw (c.in_ok-push.ensures, append_assoc, add-one) before
