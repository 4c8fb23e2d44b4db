use Rattle.wl_plan.proofs.DeferredLaws.{deferred_pointer_of, pointers_of_plan}
use Rattle.wl_plan.proofs.running_laws.deferred_fields_are_pointers.Goals as goal

pub returns-clause-list : goal.returns-clause-list
returns-clause-list c = pointers_of_plan

pub returns-clause-each : goal.returns-clause-each
returns-clause-each c = λ input plan f offset is.
    deferred_pointer_of c.whole_objects.ensures.fitting c.segments_have_layouts.ensures
    c.places_end_in_time.ensures.block input plan is f offset
