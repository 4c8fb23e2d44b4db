use Rattle.std.proofs.Common.{take}
use Rattle.wl_live.specs.Marking.{HasNoKept}
use Rattle.wl_live.proofs.refusals.kept_fault.Given as goal

abbrev pub invariant-loop-fault : goal.invariant-loop-fault
invariant-loop-fault l = HasNoKept l.live l.object (take l.fault-index l.faults)
