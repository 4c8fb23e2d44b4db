use Rattle.std.proofs.Common.{◌≡◌, ◌∙◌, ap, sym, subst, arith, length, sum_by, List, ℕ}
use Rattle.wl_reach.specs.Graph.{HasEdges}
use Rattle.wl_reach.specs.Search.{steps_of}
use Rattle.wl_reach.proofs.GraphLaws.{HasEdge-graph_of, length-graph_of, sum_by-graph_of}
use Rattle.wl_symbols.specs.Units.{unit_number_if, total_of}
use Rattle.wl_live.specs.Laying.{all_edges}
use Rattle.wl_live.specs.Table.{found, references, roots}
use Rattle.wl_live.proofs.ReachLaws.{IsGraphOf, numbers-lt, edges_from-lt, UnitsReached-from}
use Rattle.wl_live.proofs.StepLaws.{steps_reached}
use Rattle.wl_live.proofs.marking.reach_units.Goals as goal

pub reach_counted-requires : goal.reach_counted-requires
reach_counted-requires g c = rw (c.deref-2.ensures.value, c.in_ok-starts.ensures, c.in_ok-table.ensures, length-graph_of) (numbers-lt c.args.numbers.now c.deref.result.now)

pub returns-clause-each : goal.returns-clause-each
returns-clause-each g c =
    let ns = c.args.numbers.now in
    c.in_ok-marks.ensures.marked.each ∙ (ap (λ (g : List (List ℕ)). length g) c.in_ok-table.ensures ∙ length-graph_of (total_of ns) (all_edges c.args.symbols.now ns c.args.facts.now))

pub returns-clause-marks : goal.returns-clause-marks
returns-clause-marks g c =
    let ns = c.args.numbers.now in
    let refs = references c.args.symbols.now ns c.args.facts.now in
    let edges = all_edges c.args.symbols.now ns c.args.facts.now in
    let begins : c.deref.result.now ≡ roots c.args.symbols.now ns = c.deref.ensures.value ∙ c.in_ok-roots.ensures in
    let starts : c.deref-2.result.now ≡ found (unit_number_if ns) (roots c.args.symbols.now ns) = c.deref-2.ensures.value ∙ (c.in_ok-starts.ensures ∙ ap (found (unit_number_if ns)) begins) in
    let graph : IsGraphOf ns refs c.in_ok-table.table = subst (λ (g : List (List ℕ)). HasEdges edges g) (sym c.in_ok-table.ensures) (HasEdge-graph_of (total_of ns) edges (edges_from-lt ns refs)) in
    UnitsReached-from ns refs (roots c.args.symbols.now ns) c.in_ok-table.table _ graph (rw starts at c.in_ok-marks.ensures.marked)

pub returns-clause-steps : goal.returns-clause-steps
returns-clause-steps g c =
    let ns = c.args.numbers.now in
    let refs = references c.args.symbols.now ns c.args.facts.now in
    let edges = all_edges c.args.symbols.now ns c.args.facts.now in
    let size : length c.in_ok-marks.marks ≡ total_of ns = c.in_ok-marks.ensures.marked.each ∙ (ap (λ (g : List (List ℕ)). length g) c.in_ok-table.ensures ∙ length-graph_of (total_of ns) edges) in
    λ numbering.
    omega (arith, c.in_ok-marks.ensures.steps, ap (steps_of c.in_ok-marks.marks) c.in_ok-table.ensures, steps_reached ns refs c.in_ok-marks.marks numbering size)

pub returns-in_err-marks-clause-cost : goal.returns-in_err-marks-clause-cost
returns-in_err-marks-clause-cost g c =
    let ns = c.args.numbers.now in
    let refs = references c.args.symbols.now ns c.args.facts.now in
    let edges = all_edges c.args.symbols.now ns c.args.facts.now in
    let size : length c.in_ok-table.table ≡ total_of ns = ap (λ (g : List (List ℕ)). length g) c.in_ok-table.ensures ∙ length-graph_of (total_of ns) edges in
    let sum : sum_by length c.in_ok-table.table ≡ length edges = ap (sum_by (λ (x : List ℕ). length x)) c.in_ok-table.ensures ∙ sum_by-graph_of (total_of ns) edges (edges_from-lt ns refs) in
    omega (arith, c.reach_counted.ensures.cost, size, sum)

pub returns-clause-cost : goal.returns-clause-cost
returns-clause-cost g c =
    let ns = c.args.numbers.now in
    let refs = references c.args.symbols.now ns c.args.facts.now in
    let edges = all_edges c.args.symbols.now ns c.args.facts.now in
    let size : length c.in_ok-table.table ≡ total_of ns = ap (λ (g : List (List ℕ)). length g) c.in_ok-table.ensures ∙ length-graph_of (total_of ns) edges in
    let sum : sum_by length c.in_ok-table.table ≡ length edges = ap (sum_by (λ (x : List ℕ). length x)) c.in_ok-table.ensures ∙ sum_by-graph_of (total_of ns) edges (edges_from-lt ns refs) in
    omega (arith, c.reach_counted.ensures.cost, size, sum)
