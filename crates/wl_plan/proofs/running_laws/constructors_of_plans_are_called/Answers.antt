use Rattle.wl_plan.proofs.CallLaws.{constructors_called}
use Rattle.wl_plan.proofs.running_laws.constructors_of_plans_are_called.Goals as goal

pub returns : goal.returns
returns c = constructors_called c.call_sequence_makes_its_calls.ensures
