use Rattle.std.proofs.Common.{◌≡◌, length}
use Rattle.wl_bytes.specs.Parse.{Takes}
use Rattle.wl_bytes.specs.Grammar.{Items}
use Rattle.wl_ops.specs.Operators.{IsTaken}
use Rattle.wl_ops.specs.Decoding.{is_ended}
use Rattle.wl_ops.proofs.decoding.read_ops.Given as goal

abbrev pub invariant-loop-alloc : goal.invariant-loop-alloc
invariant-loop-alloc l = Takes (Items IsTaken) l.ops.items l.fn.reader l.reader × (is_ended l.ops.items ≡ l.is_ended)

abbrev pub decreases-loop-alloc : goal.decreases-loop-alloc
decreases-loop-alloc l = length l.reader.rest
