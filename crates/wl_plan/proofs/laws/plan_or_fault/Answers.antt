use Rattle.std.proofs.Common.{subst}
use Rattle.wl_symbols.specs.Live.{Live}
use Rattle.wl_plan.specs.Faults.{input_of}
use Rattle.wl_plan.specs.Plan.{IsPlan}
use Rattle.wl_plan.proofs.UniqueLaws.{PartsAreOne, plans_one}
use Rattle.wl_plan.proofs.laws.plan_or_fault.Goals as goal

pub returns-clause-one : goal.returns-clause-one
returns-clause-one c = λ link a b p q.
    let same = c.live_sets_are_one.ensures.one link p.live q.live p.kept q.kept in
    let parts : PartsAreOne = record {
      placings = c.parts_are_one.ensures.placings;
      entities = c.parts_are_one.ensures.entities;
      places = c.parts_are_one.ensures.places;
      spaces = c.parts_are_one.ensures.spaces;
      fixups = c.parts_are_one.ensures.fixups;
      bodies = c.parts_are_one.ensures.bodies;
    } in
    plans_one parts (input_of link q.live) a b
    (subst (λ (live : Live). IsPlan (input_of link live) a) same p.is_plan) q.is_plan

pub returns-clause-either : goal.returns-clause-either
returns-clause-either c = λ link plan e p f. p.clear.none e f
