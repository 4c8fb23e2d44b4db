use Rattle.wl_data.proofs.CopiedLaws.{shared_copied, own_copied}
use Rattle.wl_data.proofs.laws.copied_segments_are_passive.Goals as goal

pub returns-clause-shared : goal.returns-clause-shared
returns-clause-shared c = shared_copied

pub returns-clause-own : goal.returns-clause-own
returns-clause-own c = own_copied
