use Rattle.std.proofs.Common.{◌≡◌, ◌++◌, ◌-◌}
use Rattle.std.specs.Prelude.{replicate}
use Rattle.wl_synth.specs.Wat as wat
use Rattle.wl_synth.proofs.calls.push_drops.Given as goal

abbrev pub invariant-loop : goal.invariant-loop
invariant-loop l = l.body ++ replicate (l.count - l.counter) wat.drop ≡ l.fn.body ++ replicate l.count wat.drop
