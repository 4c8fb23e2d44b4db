use Rattle.std.proofs.Common.{◌≡◌, drop, length}
use Rattle.wl_why.specs.Marked.{with_marks}
use Rattle.wl_why.specs.Checking.{justified_by_edge}
use Rattle.wl_why.proofs.checking.mark_references.Given as goal

abbrev pub invariant-loop-edge : goal.invariant-loop-edge
invariant-loop-edge l = record {
  each : length l.marks ≡ length l.steps;
  marks : with_marks (justified_by_edge l.places l.steps) l.marks (drop l.edge-index l.edges) ≡ with_marks (justified_by_edge l.places l.steps) l.fn.marks l.edges;
}
