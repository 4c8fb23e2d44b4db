use Rattle.std.proofs.Common.{◌-◌, length, take}
use Rattle.wl_plan.specs.Objects.{AreObjects}
use Rattle.wl_plan.proofs.parsing.parse_objects.Given as goal

abbrev pub invariant-loop-bytes : goal.invariant-loop-bytes
invariant-loop-bytes l = AreObjects l.files (take (length l.files) l.objects)

abbrev pub decreases-loop-bytes : goal.decreases-loop-bytes
decreases-loop-bytes l = length l.objects - length l.files
