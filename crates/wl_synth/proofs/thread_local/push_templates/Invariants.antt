use Rattle.std.proofs.Common.{◌≡◌, ◌++◌, drop}
use Rattle.std.specs.List.{flat_map}
use Rattle.wl_synth.specs.Bodies.{template_ops}
use Rattle.wl_synth.proofs.thread_local.push_templates.Given as goal

abbrev pub invariant-loop-copy : goal.invariant-loop-copy
invariant-loop-copy l = l.body ++ flat_map template_ops (drop l.copy-index l.copies) ≡ l.fn.body ++ flat_map template_ops l.copies
