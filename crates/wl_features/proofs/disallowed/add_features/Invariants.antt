use Rattle.std.proofs.Common.{◌≡◌, ℕ, List, take, bytes_eq}
use Rattle.std.specs.List.{list_any}
use Rattle.wl_features.specs.Taken.{names_of}
use Rattle.wl_features.specs.Faults.{is_disallowed}
use Rattle.wl_features.specs.Disallowing.{first_in, with_object}
use Rattle.wl_features.proofs.disallowed.add_features.Given as goal

abbrev pub invariant-loop-feature : goal.invariant-loop-feature
invariant-loop-feature l =
    (q : List ℕ) → first_in l.firsts q
    ≡ with_object (first_in l.initial.firsts q)
    (list_any (bytes_eq q) (names_of is_disallowed (take l.feature-index l.features))) l.object
