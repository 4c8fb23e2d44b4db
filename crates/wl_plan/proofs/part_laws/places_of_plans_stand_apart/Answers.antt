use Rattle.wl_places.specs.Placing.{data_input}
use Rattle.wl_plan.proofs.part_laws.places_of_plans_stand_apart.Goals as goal

pub returns-clause-memory : goal.returns-clause-memory
returns-clause-memory c = λ input plan is.
    rw (is.places.data_layouts, is.places.data_end)
    (c.places_stand_apart.ensures.memory (data_input input) is.placing.places is.placed.laid)

pub returns-clause-block : goal.returns-clause-block
returns-clause-block c = λ input plan is.
    rw is.places.data_layouts
    (c.places_stand_apart.ensures.block (data_input input) is.placing.places is.placed.laid)
