use Rattle.wl_live.proofs.FaultLaws.{FaultsOfGlobals}
use Rattle.wl_live.proofs.faults.push_globals.Given as goal

abbrev pub invariant-loop-i : goal.invariant-loop-i
invariant-loop-i l = FaultsOfGlobals l.file l.i l.faults.items
