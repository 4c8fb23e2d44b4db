use Rattle.std.proofs.Common.{◌↔◌, length}
use Rattle.wl_ops.specs.Expressions.{HasReference}
use Rattle.wl_ops.proofs.expressions.has_reference.Given as goal

abbrev pub invariant-loop-reader : goal.invariant-loop-reader
invariant-loop-reader l = HasReference l.reader ↔ HasReference l.initial.reader

abbrev pub decreases-loop-reader : goal.decreases-loop-reader
decreases-loop-reader l = length l.reader.rest
