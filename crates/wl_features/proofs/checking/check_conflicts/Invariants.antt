use Rattle.std.proofs.Common.{map}
use Rattle.wl_features.specs.Disallowing.{AreFree}
use Rattle.wl_features.proofs.checking.check_conflicts.Given as goal

abbrev pub invariant-loop-name : goal.invariant-loop-name
invariant-loop-name l = AreFree l.disallowed (map (λ n. n.now) l.names) l.name-index
