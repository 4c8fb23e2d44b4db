use Rattle.wl_live.proofs.RefusalLaws.{HasNoKept-next, HasNoKept-all}
use Rattle.wl_live.proofs.refusals.kept_fault.Goals as goal

pub loop-fault-preserved : goal.loop-fault-preserved
loop-fault-preserved c = HasNoKept-next c.args.live.now c.args.object c.args.faults.now c.loop-fault.fault-index _ c.loop-fault.invariant c.loop-fault-test.true c.if-is_live.ensures

pub returns : goal.returns
returns c = HasNoKept-all c.args.live.now c.args.object c.args.faults.now c.loop-fault.fault-index c.loop-fault.invariant c.loop-fault-test.false
