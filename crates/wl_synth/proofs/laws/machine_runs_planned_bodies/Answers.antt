use Rattle.wl_synth.proofs.PlannedFactLaws.{planned_facts}
use Rattle.wl_synth.proofs.laws.machine_runs_planned_bodies.Goals as goal

pub returns : goal.returns
returns c = planned_facts c.computed_operators_are_spelled.ensures
