use Rattle.wl_synth.proofs.FactLaws.{stub_traps, empty_ends}
use Rattle.wl_synth.proofs.laws.short_bodies_run.Goals as goal

pub returns-clause-stub : goal.returns-clause-stub
returns-clause-stub c = stub_traps c.computed_operators_are_spelled.ensures

pub returns-clause-empty : goal.returns-clause-empty
returns-clause-empty c = empty_ends c.computed_operators_are_spelled.ensures
