use Rattle.std.proofs.Common.{◌≡◌, ◌++◌, drop}
use Rattle.std.specs.List.{flat_map}
use Rattle.wl_synth.specs.Bodies.{call_ops}
use Rattle.wl_synth.proofs.calls.push_calls.Given as goal

abbrev pub invariant-loop-function : goal.invariant-loop-function
invariant-loop-function l = l.body ++ flat_map call_ops (drop l.function-index l.calls) ≡ l.fn.body ++ flat_map call_ops l.calls
