use Rattle.wl_places.specs.Placing.{data_input}
use Rattle.wl_plan.proofs.ClearLaws.{is_clear}
use Rattle.wl_plan.proofs.part_laws.plans_keep_their_promises.Goals as goal

pub returns-clause-bound : goal.returns-clause-bound
returns-clause-bound c = λ link plan is. (is_clear link plan is).bound

pub returns-clause-fitting : goal.returns-clause-fitting
returns-clause-fitting c = λ link plan is. (is_clear link plan is).values

pub returns-clause-values : goal.returns-clause-values
returns-clause-values c = λ link plan is. is.is_plan.fixups

pub returns-clause-kept : goal.returns-clause-kept
returns-clause-kept c = λ link plan is u there. (is.kept.only u, is.kept.every u there)

pub returns-clause-spaces : goal.returns-clause-spaces
returns-clause-spaces c = λ input plan is. (
  c.entries_stand_once.ensures.functions input,
  c.entries_stand_once.ensures.globals input,
  rw is.spaces.types (c.entries_stand_once.ensures.types input),
)

pub returns-clause-placed : goal.returns-clause-placed
returns-clause-placed c = λ input plan is.
    rw is.places.data_layouts (c.segments_have_layouts.ensures (data_input input) is.placing.places is.placed.laid)
