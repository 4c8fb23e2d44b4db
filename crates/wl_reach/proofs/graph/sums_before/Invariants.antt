use Rattle.std.proofs.Common.{◌≡◌, sum, take}
use Rattle.wl_reach.specs.Graph.{AreSums}
use Rattle.wl_reach.proofs.graph.sums_before.Given as goal

abbrev pub invariant-loop-count : goal.invariant-loop-count
invariant-loop-count l = record {
  sum : l.sum ≡ sum (take l.count-index l.counts);
  sums : AreSums l.counts l.count-index l.sums.items;
}
