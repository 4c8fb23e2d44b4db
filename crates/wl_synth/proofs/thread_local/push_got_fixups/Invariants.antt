use Rattle.std.proofs.Common.{◌≡◌, ◌++◌, drop}
use Rattle.std.specs.List.{flat_map}
use Rattle.wl_synth.specs.Bodies.{got_ops}
use Rattle.wl_synth.proofs.thread_local.push_got_fixups.Given as goal

abbrev pub invariant-loop-fixup : goal.invariant-loop-fixup
invariant-loop-fixup l = l.body ++ flat_map (got_ops l.base) (drop l.fixup-index l.fixups) ≡ l.fn.body ++ flat_map (got_ops l.base) l.fixups
