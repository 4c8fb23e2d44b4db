-- What justifies a step: a root, or a reference.
use Rattle.std.specs.Prelude.{◌≡◌, ℕ, ◌<◌, ◌==◌, Bool, false, is_none, if◌then◌else◌, List, Option, Some, None, IfSome, slice_get, slice_index}
use Rattle.std.specs.Option.{option_and_then}
use Rattle.wl_reach.specs.Marks.{IsMarked}
use Rattle.wl_reach.specs.declared.graph.Edge.{Edge}
use Rattle.wl_why.specs.declared.certificate.Step.{Step}

-- the place, if the step there comes from none
abbrev pub root_place : List Step → ℕ → Option ℕ
root_place steps place =
    option_and_then (λ (s : Step). if is_none s.from then Some place else None)
    (slice_get steps place)

-- the step comes from that place
abbrev pub is_from : Option ℕ → ℕ → Bool
is_from None from = false
is_from (Some place) from = place == from

-- the place, if the step there comes from the other place
abbrev pub from_place : List Step → ℕ → ℕ → Option ℕ
from_place steps from place =
    option_and_then (λ (s : Step). if is_from s.from from then Some place else None)
    (slice_get steps place)

-- the place of the step that is justified because the unit of that number is a root
abbrev pub justified_by_root : List ℕ → List Step → ℕ → Option ℕ
justified_by_root places steps n = root_place steps (slice_index places n)

-- the place of the step that is justified because one unit refers to the other
abbrev pub justified_by_edge : List ℕ → List Step → Edge → Option ℕ
justified_by_edge places steps e =
    from_place steps (slice_index places e.from) (slice_index places e.to)

-- each step is marked, and comes from none or from one before it
abbrev pub AreJustified : List Step → List Bool → Type 0
AreJustified steps marks =
    (place : ℕ) (s : Step) → slice_get steps place ≡ Some s
    → IsMarked marks place × IfSome s.from (λ from. from < place)
