use Rattle.std.proofs.Common.{◌≡◌, ◌++◌, ◌∷◌, ◌∙◌, suc, ap, sym, subst, refl, get_or, length, take, drop, drop-cons, List, ℕ}
use Rattle.std.proofs.lemmas.List.{take-append-drop}
use Rattle.wl_reach.specs.Graph.{HasRoom}
use Rattle.wl_reach.specs.declared.graph.Edge.{Edge}
use Rattle.wl_reach.proofs.GraphLaws.{length-graph_of, room_left}
use Rattle.wl_reach.proofs.graph.build.Goals as goal

pub add-requires-clause-from : goal.add-requires-clause-from
add-requires-clause-from c =
    let size : length c.loop-edge.builder.graph ≡ length c.args.rooms = ap (λ (g : List (List ℕ)). length g) c.loop-edge.invariant.graph ∙ length-graph_of (length c.args.rooms) (take c.loop-edge.edge-index c.args.edges.now) in
    rw size (c.requires.from c.loop-edge.edge-index (record { from = 0; to = 0 }) c.loop-edge-test.true)

pub add-requires-clause-to : goal.add-requires-clause-to
add-requires-clause-to c =
    let size : length c.loop-edge.builder.graph ≡ length c.args.rooms = ap (λ (g : List (List ℕ)). length g) c.loop-edge.invariant.graph ∙ length-graph_of (length c.args.rooms) (take c.loop-edge.edge-index c.args.edges.now) in
    rw size (c.requires.to c.loop-edge.edge-index (record { from = 0; to = 0 }) c.loop-edge-test.true)

pub add-requires-clause-room : goal.add-requires-clause-room
add-requires-clause-room c =
    let none : Edge = record { from = 0; to = 0 } in
    let edges = c.args.edges.now in
    let i = c.loop-edge.edge-index in
    let e : Edge = get_or edges i none in
    let rest : List Edge = drop (suc i) edges in
    let split : edges ≡ take i edges ++ e ∷ rest = sym (take-append-drop i edges) ∙ ap (λ (l : List Edge). take i edges ++ l) (drop-cons edges i none c.loop-edge-test.true) in
    rw (c.loop-edge.invariant.graph, c.loop-edge.invariant.rooms)
    (room_left (length c.args.rooms) c.args.rooms (take i edges) e rest refl (subst (λ (l : List Edge). HasRoom c.args.rooms l) split c.requires.room) (c.requires.from i none c.loop-edge-test.true))
