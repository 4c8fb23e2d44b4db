use Rattle.wl_ops.proofs.ToldLaws.{told_alternatives}
use Rattle.wl_ops.proofs.laws.numbers_or_fault.Goals as goal

pub returns : goal.returns
returns c = told_alternatives
