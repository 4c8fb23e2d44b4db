use Rattle.wl_synth.proofs.FactLaws.{facts}
use Rattle.wl_synth.proofs.laws.machine_runs_other_bodies.Goals as goal

pub returns : goal.returns
returns c w = facts c.computed_operators_are_spelled.ensures w
