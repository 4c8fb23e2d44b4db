use Rattle.wl_places.proofs.ThreadDataLaws.{some_own, which_own}
use Rattle.wl_places.proofs.laws.kept_thread_data_is_laid.Goals as goal

pub returns-clause-some : goal.returns-clause-some
returns-clause-some c = some_own

pub returns-clause-each : goal.returns-clause-each
returns-clause-each c = which_own
