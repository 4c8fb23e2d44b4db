use Rattle.wl_plan.proofs.PartLaws.{operators_kept, numbers_named}
use Rattle.wl_places.proofs.SegmentLaws.{segments_once}
use Rattle.wl_plan.proofs.part_laws.bodies_name_their_own_segments.Goals as goal

pub returns-clause-operators : goal.returns-clause-operators
returns-clause-operators c = operators_kept c.rewriting_keeps_operators.ensures

pub returns-clause-numbers : goal.returns-clause-numbers
returns-clause-numbers c = numbers_named c.numbers_are_one.ensures.one

pub returns-clause-once : goal.returns-clause-once
returns-clause-once c = λ input plan is. segments_once c.segments_have_layouts.ensures input is.placing is.placed
