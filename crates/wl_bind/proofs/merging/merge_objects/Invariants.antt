use Rattle.std.proofs.Common.{[]}
use Rattle.wl_bind.proofs.MergeLaws.{MergingObjects}
use Rattle.wl_bind.proofs.merging.merge_objects.Given as goal

abbrev pub invariant-loop-object : goal.invariant-loop-object
invariant-loop-object l = MergingObjects l.input [] l.object l.merged.types l.merged.indices
