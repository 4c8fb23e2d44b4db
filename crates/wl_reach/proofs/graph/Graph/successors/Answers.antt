use Rattle.std.proofs.Common.{◌≡◌, ◌<◌, ◌-◌, ◌∙◌, ap, sym, refl, arith, length, get_or, take, drop, []}
use Rattle.std.proofs.lemmas.List.{get_or_read}
use Rattle.wl_reach.specs.Graph.{stretch}
use Rattle.wl_reach.proofs.GraphLaws.{node_within, length-stretches, get_or-stretches}
use Rattle.wl_reach.proofs.graph.Graph.successors.Goals as goal

pub index-start-requires : goal.index-start-requires
index-start-requires c =
    let lt : c.args.node < length c.self.inside.starts.items = node_within c.self.inside.starts.items c.self.inside.ends.items c.self.inside.targets.items _ _ c.self.view_is c.requires in
    omega (arith, lt)

pub index-end-requires : goal.index-end-requires
index-end-requires c =
    let lt : c.args.node < length c.self.inside.starts.items = node_within c.self.inside.starts.items c.self.inside.ends.items c.self.inside.targets.items _ _ c.self.view_is c.requires in
    omega (arith, lt)

pub split_at-requires : goal.split_at-requires
split_at-requires c =
    let lt : c.args.node < length c.self.inside.starts.items = node_within c.self.inside.starts.items c.self.inside.ends.items c.self.inside.targets.items _ _ c.self.view_is c.requires in
    let start = get_or_read c.self.inside.starts.items c.args.node c.index-start.result.now lt c.index-start.ensures 0 in
    let end = get_or_read c.self.inside.ends.items c.args.node c.index-end.result.now (rw c.self.invariant.size lt) c.index-end.ensures 0 in
    omega (arith, start, end, c.self.invariant.order c.args.node lt, c.self.invariant.room c.args.node lt)

pub overflow_sub-end : goal.overflow_sub-end
overflow_sub-end c =
    let lt : c.args.node < length c.self.inside.starts.items = node_within c.self.inside.starts.items c.self.inside.ends.items c.self.inside.targets.items _ _ c.self.view_is c.requires in
    let start = get_or_read c.self.inside.starts.items c.args.node c.index-start.result.now lt c.index-start.ensures 0 in
    let end = get_or_read c.self.inside.ends.items c.args.node c.index-end.result.now (rw c.self.invariant.size lt) c.index-end.ensures 0 in
    omega (arith, start, end, c.self.invariant.order c.args.node lt)

pub split_at-requires-2 : goal.split_at-requires-2
split_at-requires-2 c =
    let lt : c.args.node < length c.self.inside.starts.items = node_within c.self.inside.starts.items c.self.inside.ends.items c.self.inside.targets.items _ _ c.self.view_is c.requires in
    let start = get_or_read c.self.inside.starts.items c.args.node c.index-start.result.now lt c.index-start.ensures 0 in
    let end = get_or_read c.self.inside.ends.items c.args.node c.index-end.result.now (rw c.self.invariant.size lt) c.index-end.ensures 0 in
    omega (arith, start, end, c.self.invariant.room c.args.node lt, c.split_at.ensures.back_len)

pub returns-clause-are : goal.returns-clause-are
returns-clause-are c =
    let lt : c.args.node < length c.self.inside.starts.items = node_within c.self.inside.starts.items c.self.inside.ends.items c.self.inside.targets.items _ _ c.self.view_is c.requires in
    let start = get_or_read c.self.inside.starts.items c.args.node c.index-start.result.now lt c.index-start.ensures 0 in
    let end = get_or_read c.self.inside.ends.items c.args.node c.index-end.result.now (rw c.self.invariant.size lt) c.index-end.ensures 0 in
    let cut : c.split_at-2.result.0.now ≡ stretch c.self.inside.starts.items c.self.inside.ends.items c.self.inside.targets.items c.args.node =
    c.split_at-2.ensures.front ∙ (ap (take (c.index-end.result.now - c.index-start.result.now)) (c.split_at.ensures.back ∙ ap (drop c.index-start.result.now) c.as_slice.ensures.value) ∙ rw (start, end) refl) in
    cut ∙ (sym (get_or-stretches c.self.inside.starts.items c.self.inside.ends.items c.self.inside.targets.items c.args.node [] lt) ∙ ap (λ g. get_or g c.args.node []) c.self.view_is)

pub returns-clause-nodes : goal.returns-clause-nodes
returns-clause-nodes c =
    let lt : c.args.node < length c.self.inside.starts.items = node_within c.self.inside.starts.items c.self.inside.ends.items c.self.inside.targets.items _ _ c.self.view_is c.requires in
    let start = get_or_read c.self.inside.starts.items c.args.node c.index-start.result.now lt c.index-start.ensures 0 in
    let end = get_or_read c.self.inside.ends.items c.args.node c.index-end.result.now (rw c.self.invariant.size lt) c.index-end.ensures 0 in
    let cut : c.split_at-2.result.0.now ≡ stretch c.self.inside.starts.items c.self.inside.ends.items c.self.inside.targets.items c.args.node =
    c.split_at-2.ensures.front ∙ (ap (take (c.index-end.result.now - c.index-start.result.now)) (c.split_at.ensures.back ∙ ap (drop c.index-start.result.now) c.as_slice.ensures.value) ∙ rw (start, end) refl) in
    let size : length c.self.inside.starts.items ≡ length c.args.self.now = sym (length-stretches c.self.inside.starts.items c.self.inside.ends.items c.self.inside.targets.items) ∙ ap length c.self.view_is in
    rw (cut, ← size) (c.self.invariant.nodes c.args.node lt)
