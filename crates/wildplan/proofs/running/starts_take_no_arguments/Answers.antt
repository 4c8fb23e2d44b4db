use Rattle.wildplan.proofs.StartLaws.{start_alone}
use Rattle.wildplan.proofs.running.starts_take_no_arguments.Goals as goal

pub returns : goal.returns
returns c = start_alone
