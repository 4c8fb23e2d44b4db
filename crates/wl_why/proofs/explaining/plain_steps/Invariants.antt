use Rattle.std.proofs.Common.{◌≡◌, ◌++◌, drop, map}
use Rattle.wl_why.specs.Explaining.{plain_step}
use Rattle.wl_why.proofs.explaining.plain_steps.Given as goal

abbrev pub invariant-loop-unit : goal.invariant-loop-unit
invariant-loop-unit l = l.steps.items ++ map plain_step (drop l.unit-index l.units) ≡ map plain_step l.units
