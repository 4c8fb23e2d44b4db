use Rattle.std.proofs.Common.{◌≡◌, false, map, take, bytes_eq}
use Rattle.std.specs.List.{list_any}
use Rattle.wl_features.proofs.checking.has_name.Given as goal

abbrev pub invariant-loop-one : goal.invariant-loop-one
invariant-loop-one l =
    list_any (bytes_eq l.name) (map (λ n. n.now) (take l.one-index l.names)) ≡ false
