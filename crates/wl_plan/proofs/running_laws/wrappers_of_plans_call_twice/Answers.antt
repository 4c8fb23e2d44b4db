use Rattle.wl_plan.proofs.WrapRunLaws.{wraps_function}
use Rattle.wl_plan.proofs.running_laws.wrappers_of_plans_call_twice.Goals as goal

pub returns : goal.returns
returns c = wraps_function c.wrapper_makes_two_calls.ensures
