use Rattle.std.proofs.Common.{◌≡◌, length, take}
use Rattle.wl_reach.specs.Graph.{HasRoom}
use Rattle.wl_reach.proofs.graph.rooms_for.Given as goal

abbrev pub invariant-loop-edge : goal.invariant-loop-edge
invariant-loop-edge l = record {
  nodes : length l.rooms ≡ l.nodes;
  room : HasRoom l.rooms (take l.edge-index l.edges);
}
