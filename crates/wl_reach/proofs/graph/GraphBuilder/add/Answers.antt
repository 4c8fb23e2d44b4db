use Rattle.std.proofs.Common.{◌≡◌, ◌<◌, ◌∙◌, ap, sym, arith, get_or, length, List, ℕ}
use Rattle.std.proofs.lemmas.List.{get_or_read}
use Rattle.wl_reach.specs.Graph.{Building, with_edge, stretches}
use Rattle.wl_reach.proofs.GraphLaws.{Free, is_free_at, node_within, stretches-more, IsBuilding-more, graph_of-more}
use Rattle.wl_reach.proofs.graph.GraphBuilder.add.Goals as goal

pub index_mut-requires : goal.index_mut-requires
index_mut-requires c =
    let ends = c.self.inside.ends.items in
    let free : Free c.self.inside.rooms c.self.inside.starts.items ends c.self.inside.targets.items c.args.edge.from = is_free_at _ _ _ _ c.args.edge.from _ c.self.view_is c.self.invariant c.requires.from c.requires.room in
    let within : c.args.edge.from < length ends = rw c.self.invariant.size free.inside in
    let place : c.index-place.result.now ≡ get_or ends c.args.edge.from 0 = get_or_read ends c.args.edge.from c.index-place.result.now within c.index-place.ensures 0 in
    omega (arith, place, free.table)

pub invariant_of-self : goal.invariant_of-self
invariant_of-self c =
    let starts = c.self.inside.starts.items in
    let ends = c.self.inside.ends.items in
    let targets = c.self.inside.targets.items in
    let free : Free c.self.inside.rooms starts ends targets c.args.edge.from = is_free_at _ _ _ _ c.args.edge.from _ c.self.view_is c.self.invariant c.requires.from c.requires.room in
    let within : c.args.edge.from < length ends = rw c.self.invariant.size free.inside in
    let place : c.index-place.result.now ≡ get_or ends c.args.edge.from 0 = get_or_read ends c.args.edge.from c.index-place.result.now within c.index-place.ensures 0 in
    let graph : stretches starts ends targets ≡ c.args.self.now.graph = ap (λ (b : Building). b.graph) c.self.view_is in
    rw place (IsBuilding-more c.self.inside.rooms starts ends targets c.args.edge c.self.invariant free (node_within starts ends targets _ _ graph c.requires.to))

pub returns-clause-graph : goal.returns-clause-graph
returns-clause-graph c =
    let starts = c.self.inside.starts.items in
    let ends = c.self.inside.ends.items in
    let targets = c.self.inside.targets.items in
    let free : Free c.self.inside.rooms starts ends targets c.args.edge.from = is_free_at _ _ _ _ c.args.edge.from _ c.self.view_is c.self.invariant c.requires.from c.requires.room in
    let within : c.args.edge.from < length ends = rw c.self.invariant.size free.inside in
    let place : c.index-place.result.now ≡ get_or ends c.args.edge.from 0 = get_or_read ends c.args.edge.from c.index-place.result.now within c.index-place.ensures 0 in
    let graph : stretches starts ends targets ≡ c.args.self.now.graph = ap (λ (b : Building). b.graph) c.self.view_is in
    rw place (stretches-more c.self.inside.rooms starts ends targets c.args.edge c.self.invariant free ∙ ap (λ (g : List (List ℕ)). with_edge g c.args.edge) graph)

pub returns-clause-laid : goal.returns-clause-laid
returns-clause-laid c =
    let starts = c.self.inside.starts.items in
    let ends = c.self.inside.ends.items in
    let targets = c.self.inside.targets.items in
    let free : Free c.self.inside.rooms starts ends targets c.args.edge.from = is_free_at _ _ _ _ c.args.edge.from _ c.self.view_is c.self.invariant c.requires.from c.requires.room in
    let within : c.args.edge.from < length ends = rw c.self.invariant.size free.inside in
    let place : c.index-place.result.now ≡ get_or ends c.args.edge.from 0 = get_or_read ends c.args.edge.from c.index-place.result.now within c.index-place.ensures 0 in
    let graph : stretches starts ends targets ≡ c.args.self.now.graph = ap (λ (b : Building). b.graph) c.self.view_is in
    λ nodes edges is. rw place (stretches-more c.self.inside.rooms starts ends targets c.args.edge c.self.invariant free ∙ (ap (λ (g : List (List ℕ)). with_edge g c.args.edge) (graph ∙ is) ∙ sym (graph_of-more nodes edges c.args.edge)))
