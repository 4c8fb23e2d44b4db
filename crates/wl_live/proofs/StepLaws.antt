-- The steps of a search through the table are those of the references.
use Rattle.std.proofs.Common.{◌≡◌, ℕ, ◌+◌, ◌<◌, ◌&&◌, Bool, true, false, cond, count_by, List, [], ◌∷◌, length, get_or, refl, ap, sym, ◌∙◌, subst, arith, All, Some, None}
use Rattle.std.specs.Option.{option_to_list}
use Rattle.std.proofs.lemmas.List.Sums.{sum_by-cons, sum_by-append}
use Rattle.wl_reach.specs.declared.graph.Edge.{Edge}
use Rattle.wl_reach.specs.Graph.{graph_of}
use Rattle.wl_reach.specs.Marks.{count_set}
use Rattle.wl_reach.specs.Search.{steps_of}
use Rattle.wl_reach.proofs.StepLaws.{steps_by_edges}
use Rattle.wl_symbols.specs.Units.{exists, unit_number, total_of}
use Rattle.wl_live.specs.Table.{Reference, found, edge_of}
use Rattle.wl_live.specs.Marking.{is_followed, search_steps}
use Rattle.wl_symbols.specs.declared.units.UnitCounts.{UnitCounts}
use Rattle.wl_live.proofs.ReachLaws.{edge_between, edges_from-lt}

-- how many of these edges lead from a marked node
abbrev pub followed : List Bool → List Edge → ℕ
followed marks edges = count_by (λ (e : Edge). get_or marks e.from false) edges

-- the edge between two numbers, of which each is that of a unit or isn't
edge_followed : (marks : List Bool) (from to : Bool) (a b : ℕ) → followed marks (option_to_list (edge_between (cond from (Some a) None) (cond to (Some b) None))) ≡ cond (to && (from && get_or marks a false)) 1 0
edge_followed marks true true a b = omega arith
edge_followed marks true false a b = refl
edge_followed marks false true a b = refl
edge_followed marks false false a b = refl

pub edges_followed : (ns : List UnitCounts) (marks numbering : List Bool) (refs : List Reference) → followed marks (found (edge_of ns) refs) ≡ count_by (is_followed (record { units = ns; marks = marks; numbering = numbering })) refs
edges_followed ns marks numbering [] = refl
edges_followed ns marks numbering (r ∷ refs) =
    let f : Edge → ℕ = λ e. cond (get_or marks e.from false) 1 0 in
    let one = edge_followed marks (exists ns r.from) (exists ns r.to) (unit_number ns r.from) (unit_number ns r.to) in
    let rest = edges_followed ns marks numbering refs in
    let joined = sum_by-append f (option_to_list (edge_of ns r)) (found (edge_of ns) refs) in
    let more = sum_by-cons (λ (x : Reference). cond (is_followed (record { units = ns; marks = marks; numbering = numbering }) x) 1 0) r refs in
    omega (arith, one, rest, joined, more)

pub steps_reached : (ns : List UnitCounts) (refs : List Reference) (marks numbering : List Bool) → length marks ≡ total_of ns → steps_of marks (graph_of (total_of ns) (found (edge_of ns) refs)) ≡ search_steps (record { units = ns; marks = marks; numbering = numbering }) refs
steps_reached ns refs marks numbering size =
    let edges = found (edge_of ns) refs in
    let from : All (λ (e : Edge). e.from < length marks) edges = subst (λ (n : ℕ). All (λ (e : Edge). e.from < n) edges) (sym size) (edges_from-lt ns refs) in
    ap (λ (n : ℕ). steps_of marks (graph_of n edges)) (sym size)
    ∙ (steps_by_edges marks edges from ∙ ap (λ (n : ℕ). count_set marks + n) (edges_followed ns marks numbering refs))
