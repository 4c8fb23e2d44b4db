use Rattle.wl_data.proofs.CopiedLaws.{memory_ends, before_flag, flag_last, block_ends, memory_separate, block_separate}
use Rattle.wl_data.proofs.laws.places_end_in_time.Goals as goal

pub returns-clause-memory : goal.returns-clause-memory
returns-clause-memory c = memory_ends

pub returns-clause-before_flag : goal.returns-clause-before_flag
returns-clause-before_flag c = before_flag

pub returns-clause-flag : goal.returns-clause-flag
returns-clause-flag c = flag_last

pub returns-clause-block : goal.returns-clause-block
returns-clause-block c = block_ends

pub returns-clause-apart : goal.returns-clause-apart
returns-clause-apart c = memory_separate

pub returns-clause-block_apart : goal.returns-clause-block_apart
returns-clause-block_apart c = block_separate
