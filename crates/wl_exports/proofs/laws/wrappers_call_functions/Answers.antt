use Rattle.wl_exports.proofs.CallLaws.{constructors_made, calls_own}
use Rattle.wl_exports.proofs.laws.wrappers_call_functions.Goals as goal

pub returns-clause-constructors : goal.returns-clause-constructors
returns-clause-constructors c = λ input i e at. constructors_made input i e at

pub returns-clause-own : goal.returns-clause-own
returns-clause-own c = λ input ws i w are at. calls_own input ws i w are at
