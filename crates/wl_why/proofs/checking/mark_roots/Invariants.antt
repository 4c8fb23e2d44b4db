use Rattle.std.proofs.Common.{◌≡◌, drop, length}
use Rattle.wl_why.specs.Marked.{with_marks}
use Rattle.wl_why.specs.Checking.{justified_by_root}
use Rattle.wl_why.proofs.checking.mark_roots.Given as goal

abbrev pub invariant-loop-root : goal.invariant-loop-root
invariant-loop-root l = record {
  each : length l.marks ≡ length l.steps;
  marks : with_marks (justified_by_root l.places l.steps) l.marks (drop l.root-index l.roots) ≡ with_marks (justified_by_root l.places l.steps) l.fn.marks l.roots;
}
