use Rattle.std.proofs.Common.{◌≡◌, ◌+◌, ◌++◌, ◌∷◌, [], ◌∙◌, ap, sym, subst, arith, refl, get_or, length, take, List, ℕ}
use Rattle.std.proofs.lemmas.List.{length-replicate, length-set, take_more}
use Rattle.wl_reach.specs.Graph.{HasRoom}
use Rattle.wl_reach.specs.declared.graph.Edge.{Edge}
use Rattle.wl_reach.proofs.GraphLaws.{All-one, HasRoom-none}
use Rattle.wl_reach.proofs.graph.rooms_for.Goals as goal

pub loop-edge-init : goal.loop-edge-init
loop-edge-init c = record {
  nodes = ap (λ (l : List ℕ). length l) c.in_ok-rooms.ensures ∙ length-replicate c.args.nodes 0;
  room = HasRoom-none c.in_ok-rooms.rooms;
}

pub loop-edge-preserved : goal.loop-edge-preserved
loop-edge-preserved c =
    let none : Edge = record { from = 0; to = 0 } in
    let edges = c.args.edges.now in
    let i = c.loop-edge.edge-index in
    let e : Edge = get_or edges i none in
    let more : take (i + 1) edges ≡ take i edges ++ e ∷ [] = take_more edges i none c.loop-edge-test.true in
    record {
      nodes = ap (λ (l : List ℕ). length l) c.in_ok-add.ensures.room ∙ (length-set c.loop-edge.rooms e.from _ ∙ c.loop-edge.invariant.nodes);
      room = subst (λ (l : List Edge). HasRoom c.add.new.self l) (sym more) (c.in_ok-add.ensures.has (take i edges) (e ∷ []) c.loop-edge.invariant.room (All-one (λ (x : Edge). x.from ≡ e.from) e refl) (omega arith));
    }
