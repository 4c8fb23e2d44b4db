use Rattle.std.proofs.Common.{◌≡◌}
use Rattle.wl_module.specs.Segments.{plain_segments}
use Rattle.wl_linking.proofs.plain.plain_segments.Given as goal

abbrev pub invariant-loop-targeted : goal.invariant-loop-targeted
invariant-loop-targeted l = l.segments.items ≡ plain_segments l.yielded
