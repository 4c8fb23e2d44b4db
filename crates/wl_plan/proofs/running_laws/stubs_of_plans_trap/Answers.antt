use Rattle.wl_plan.proofs.RunningLaws.{stub_traps}
use Rattle.wl_plan.proofs.running_laws.stubs_of_plans_trap.Goals as goal

pub returns : goal.returns
returns c = λ input plan name b is. stub_traps c.short_bodies_run.ensures.stub input plan is name b
