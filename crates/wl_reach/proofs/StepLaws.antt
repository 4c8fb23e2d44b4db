-- The steps of a search by the edges: one for each marked node, and one for each edge that leads from one.
use Rattle.std.proofs.Common.{◌≡◌, ℕ, zero, suc, ◌+◌, ◌<◌, Bool, true, false, cond, count_by, List, [], ◌∷◌, length, get_or, set, refl, ap, sym, ◌∙◌, arith, All, replicate}
use Rattle.std.proofs.lemmas.List.Sums.{sum_by-cons}
use Rattle.wl_reach.specs.declared.graph.Edge.{Edge}
use Rattle.wl_reach.specs.Graph.{graph_of}
use Rattle.wl_reach.specs.Marks.{count_set}
use Rattle.wl_reach.specs.Search.{steps_of}
use Rattle.wl_reach.proofs.GraphLaws.{graph_of_none, graph_of-cons, length-graph_of}

-- ---- no edges

steps_of-unlinked : (marks : List Bool) → steps_of marks (replicate (length marks) []) ≡ count_set marks
steps_of-unlinked [] = refl
steps_of-unlinked (true ∷ marks) = omega (arith, steps_of-unlinked marks, sum_by-cons (λ (m : Bool). cond m 1 0) true marks)
steps_of-unlinked (false ∷ marks) = omega (arith, steps_of-unlinked marks, sum_by-cons (λ (m : Bool). cond m 1 0) false marks)

-- ---- one more edge

steps_of-longer : (marks : List Bool) (rows : List (List ℕ)) (v t : ℕ) → length marks ≡ length rows → v < length rows → steps_of marks (set rows v (t ∷ get_or rows v [])) ≡ steps_of marks rows + cond (get_or marks v false) 1 0
steps_of-longer marks [] v t size lt = absurd (omega arith)
steps_of-longer [] (r ∷ rows) v t size lt = absurd (omega (arith, size))
steps_of-longer (true ∷ marks) (r ∷ rows) zero t size lt = omega arith
steps_of-longer (false ∷ marks) (r ∷ rows) zero t size lt = omega arith
steps_of-longer (m ∷ marks) (r ∷ rows) (suc v) t size lt = omega (arith, steps_of-longer marks rows v t (omega (arith, size)) (omega arith))

-- ---- all edges

pub steps_by_edges : (marks : List Bool) (edges : List Edge) → All (λ e. e.from < length marks) edges → steps_of marks (graph_of (length marks) edges) ≡ count_set marks + count_by (λ (e : Edge). get_or marks e.from false) edges
steps_by_edges marks [] from = ap (steps_of marks) (graph_of_none (length marks)) ∙ (steps_of-unlinked marks ∙ omega arith)
steps_by_edges marks (e ∷ edges) from =
    let n = length marks in
    let inside : e.from < n = from 0 e (omega arith) in
    let rest = steps_by_edges marks edges (λ k d lt. from (suc k) d (omega (arith, lt))) in
    let more : steps_of marks (graph_of n (e ∷ edges)) ≡ steps_of marks (graph_of n edges) + cond (get_or marks e.from false) 1 0 =
    ap (steps_of marks) (graph_of-cons n e edges inside)
    ∙ steps_of-longer marks (graph_of n edges) e.from e.to (sym (length-graph_of n edges)) (rw length-graph_of inside) in
    omega (arith, more, rest, sum_by-cons (λ (x : Edge). cond (get_or marks x.from false) 1 0) e edges)
