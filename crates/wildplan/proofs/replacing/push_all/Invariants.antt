use Rattle.std.proofs.Common.{◌-◌, length}
use Rattle.wildplan.proofs.ReplayLaws.{PushesOn}
use Rattle.wildplan.proofs.replacing.push_all.Given as goal

abbrev pub invariant-loop-bytes : goal.invariant-loop-bytes
invariant-loop-bytes l = PushesOn l.fn.session l.session l.objects

abbrev pub decreases-loop-bytes : goal.decreases-loop-bytes
decreases-loop-bytes l = length l.objects - length l.session.objects
