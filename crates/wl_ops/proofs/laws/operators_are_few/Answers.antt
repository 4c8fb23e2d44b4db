use Rattle.wl_ops.proofs.CountLaws.{ops_few, items_few}
use Rattle.wl_ops.proofs.laws.operators_are_few.Goals as goal

pub returns-clause-operators : goal.returns-clause-operators
returns-clause-operators c = λ ops body s. ops_few ops body s

pub returns-clause-values : goal.returns-clause-values
returns-clause-values c = λ ops body s. items_few ops body s
