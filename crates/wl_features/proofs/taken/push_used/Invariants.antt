use Rattle.std.proofs.Common.{◌≡◌, ◌++◌, map, take}
use Rattle.wl_features.specs.Taken.{is_used, names_of}
use Rattle.wl_features.proofs.taken.push_used.Given as goal

abbrev pub invariant-loop-feature : goal.invariant-loop-feature
invariant-loop-feature l =
    map (λ n. n.now) l.names.items
    ≡ map (λ n. n.now) l.initial.names.items
    ++ names_of is_used (take l.feature-index l.features)
