use Rattle.std.proofs.Common.{◌≡◌}
use Rattle.wl_module.specs.Segments.{plain_segments}
use Rattle.wl_module.proofs.segments.without_memories.Given as goal

abbrev pub invariant-loop-targeted : goal.invariant-loop-targeted
invariant-loop-targeted l = l.segments.items ≡ plain_segments l.yielded
