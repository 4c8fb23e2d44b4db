use Rattle.std.proofs.Common.{◌≡◌, map, take, flat_map}
use Rattle.wl_linking.specs.Object.{Object}
use Rattle.wl_features.specs.Taken.{is_used, names_of}
use Rattle.wl_features.proofs.taken.taken_features.Given as goal

abbrev pub invariant-loop-file : goal.invariant-loop-file
invariant-loop-file l =
    map (λ n. n.now) l.names.items
    ≡ flat_map (λ (o : Object). names_of is_used o.features) (take l.file-index l.files)
