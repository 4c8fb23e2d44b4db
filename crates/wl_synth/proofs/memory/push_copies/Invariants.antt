use Rattle.std.proofs.Common.{◌≡◌, ◌++◌, drop}
use Rattle.std.specs.List.{flat_map}
use Rattle.wl_synth.specs.Bodies.{copy_ops}
use Rattle.wl_synth.proofs.memory.push_copies.Given as goal

abbrev pub invariant-loop-copy : goal.invariant-loop-copy
invariant-loop-copy l = l.body ++ flat_map copy_ops (drop l.copy-index l.copies) ≡ l.fn.body ++ flat_map copy_ops l.copies
