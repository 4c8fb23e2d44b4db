use Rattle.std.proofs.Common.{◌≡◌, ◌++◌, drop}
use Rattle.std.specs.List.{flat_map}
use Rattle.wl_synth.specs.Bodies.{pointer_ops}
use Rattle.wl_synth.proofs.thread_local.push_pointers.Given as goal

abbrev pub invariant-loop-fixup : goal.invariant-loop-fixup
invariant-loop-fixup l = l.body ++ flat_map (pointer_ops l.base) (drop l.fixup-index l.fixups) ≡ l.fn.body ++ flat_map (pointer_ops l.base) l.fixups
