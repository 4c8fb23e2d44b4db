use Rattle.std.proofs.Common.{length}
use Rattle.wl_check.specs.DifferenceSteps.{AreAlike}
use Rattle.wl_check.proofs.difference.common_front.Given as goal

abbrev pub invariant-loop-stretch : goal.invariant-loop-stretch
invariant-loop-stretch l = AreAlike l.initial.found l.initial.want l.lines l.found l.want

abbrev pub decreases-loop-stretch : goal.decreases-loop-stretch
decreases-loop-stretch l = length l.found
