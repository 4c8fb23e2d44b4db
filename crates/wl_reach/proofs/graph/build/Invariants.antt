use Rattle.std.proofs.Common.{◌≡◌, length, take}
use Rattle.wl_reach.specs.Graph.{graph_of}
use Rattle.wl_reach.proofs.graph.build.Given as goal

abbrev pub invariant-loop-edge : goal.invariant-loop-edge
invariant-loop-edge l = record {
  rooms : l.builder.rooms ≡ l.fn.rooms;
  graph : l.builder.graph ≡ graph_of (length l.fn.rooms) (take l.edge-index l.edges);
}
