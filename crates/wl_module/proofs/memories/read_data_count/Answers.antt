use Rattle.std.proofs.Common.{rules}
use Rattle.wl_module.proofs.GlobalLaws.{counts}
use Rattle.wl_module.proofs.memories.read_data_count.Goals as goal

pub returns-in_err-count-clause-reads : goal.returns-in_err-count-clause-reads
returns-in_err-count-clause-reads c = counts _ _ (search rules)

pub returns-in_err-expect_end-clause-reads : goal.returns-in_err-expect_end-clause-reads
returns-in_err-expect_end-clause-reads c = counts _ _ (search rules)

pub returns-clause-reads : goal.returns-clause-reads
returns-clause-reads c = counts _ _ (search rules)
