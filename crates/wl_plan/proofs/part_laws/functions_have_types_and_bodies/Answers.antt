use Rattle.wl_plan.proofs.PartLaws.{body_for_each, function_typed}
use Rattle.wl_plan.proofs.part_laws.functions_have_types_and_bodies.Goals as goal

pub returns-clause-bodies : goal.returns-clause-bodies
returns-clause-bodies c = body_for_each

pub returns-clause-types : goal.returns-clause-types
returns-clause-types c = function_typed
