use Rattle.wl_live.proofs.RefusalLaws.{ClearTo}
use Rattle.wl_live.proofs.refusals.check_faults.Given as goal

abbrev pub invariant-loop-object : goal.invariant-loop-object
invariant-loop-object l = ClearTo l.live l.facts l.object
