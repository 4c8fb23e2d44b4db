use Rattle.std.proofs.Common.{◌≡◌, ◌∙◌, sym, subst, ap, sum_by, length, List, ℕ}
use Rattle.std.proofs.lemmas.Result.{IfOk-weaker}
use Rattle.wl_reach.specs.Graph.{HasEdges, graph_of}
use Rattle.wl_reach.proofs.GraphLaws.{length-graph_of, HasEdge-graph_of, sum_by-graph_of}
use Rattle.wl_reach.proofs.graph.Graph.new.Goals as goal

pub returns : goal.returns
returns c =
    let n = c.args.nodes in
    let edges = c.args.edges.now in
    let laid = IfOk-weaker {X = List (List ℕ)} c.build.result (λ g. g ≡ graph_of (length c.in_ok-rooms.rooms) edges) (λ g. g ≡ graph_of n edges) (λ g e. e ∙ ap (λ (m : ℕ). graph_of m edges) c.in_ok-rooms.ensures.nodes) c.build.ensures in
    record {
      nodes = IfOk-weaker {X = List (List ℕ)} c.build.result (λ g. g ≡ graph_of n edges) (λ g. length g ≡ n) (λ g e. ap (λ (x : List (List ℕ)). length x) e ∙ length-graph_of n edges) laid;
      edges = IfOk-weaker {X = List (List ℕ)} c.build.result (λ g. g ≡ graph_of n edges) (λ g. HasEdges edges g) (λ g e. subst (HasEdges edges) (sym e) (HasEdge-graph_of n edges c.requires.from)) laid;
      count = IfOk-weaker {X = List (List ℕ)} c.build.result (λ g. g ≡ graph_of n edges) (λ g. sum_by length g ≡ length edges) (λ g e. ap (sum_by (λ (x : List ℕ). length x)) e ∙ sum_by-graph_of n edges c.requires.from) laid;
      laid = laid;
    }
