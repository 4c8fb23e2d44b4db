use Rattle.std.proofs.Common.{◌≡◌, ◌∙◌, ap, ℕ, List, []}
use Rattle.wl_reach.specs.Graph.{graph_of, stretches}
use Rattle.wl_reach.proofs.GraphLaws.{stretches-none}
use Rattle.wl_reach.proofs.graph.GraphBuilder.new.Goals as goal

pub returns-clause-graph : goal.returns-clause-graph
returns-clause-graph c =
    let starts = c.in_ok-starts.starts.items in
    let targets = c.in_ok-targets.targets.items in
    let same : c.in_ok-ends.ends.items ≡ starts = c.in_ok-ends.ensures.items ∙ c.deref.ensures.value in
    ap (λ (l : List ℕ). stretches starts l targets) same ∙ (stretches-none starts targets ∙ ap (λ (n : ℕ). graph_of n []) c.in_ok-starts.ensures.size)
