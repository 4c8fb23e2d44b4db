use Rattle.std.proofs.Common.{◌≡◌, List, length}
use Rattle.wl_module.specs.declared.constants.ConstOperator.{ConstOperator}
use Rattle.wl_module.proofs.ConstantLaws.{AreSkipped}
use Rattle.wl_module.proofs.constants.read_expression.Given as goal

abbrev pub invariant-loop-reader : goal.invariant-loop-reader
invariant-loop-reader l = (os : List ConstOperator) × AreSkipped os l.fn.reader l.reader × (l.end ≡ l.reader.position)

abbrev pub decreases-loop-reader : goal.decreases-loop-reader
decreases-loop-reader l = length l.reader.rest
