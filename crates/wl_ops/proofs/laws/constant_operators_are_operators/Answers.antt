use Rattle.wl_ops.proofs.ConstantLaws.{constant_operator, references}
use Rattle.wl_ops.proofs.laws.constant_operators_are_operators.Goals as goal

pub returns-clause-operators : goal.returns-clause-operators
returns-clause-operators c = constant_operator

pub returns-clause-references : goal.returns-clause-references
returns-clause-references c = references
