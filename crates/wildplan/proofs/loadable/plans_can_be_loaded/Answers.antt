use Rattle.wl_plan.specs.Faults.{input_of}
use Rattle.wildplan.proofs.LoadableLaws.{loadable}
use Rattle.wildplan.proofs.loadable.plans_can_be_loaded.Goals as goal

pub returns : goal.returns
returns c = λ link plan is.
    loadable link plan is (c.functions_have_types_and_bodies.ensures.bodies (input_of link is.live) plan is.is_plan)
    (λ f there. c.functions_have_types_and_bodies.ensures.types (input_of link is.live) plan f is.is_plan there)
