use Rattle.std.proofs.Common.{◌≡◌, ◌++◌, ◌-◌}
use Rattle.wl_synth.specs.Bodies.{locals_from}
use Rattle.wl_synth.proofs.calls.push_parameters.Given as goal

abbrev pub invariant-loop-local : goal.invariant-loop-local
invariant-loop-local l = l.body ++ locals_from l.local (l.count - l.local) ≡ l.fn.body ++ locals_from 0 l.count
