use Rattle.std.proofs.Common.{◌≡◌, ◌<◌, sym, subst, get_or, length, List, ℕ}
use Rattle.std.proofs.lemmas.List.{get_or_read}
use Rattle.wl_reach.specs.Graph.{HasRoom}
use Rattle.wl_reach.proofs.GraphLaws.{HasRoom-more}
use Rattle.wl_reach.proofs.graph.Rooms.add.Goals as goal

pub returns-clause-has : goal.returns-clause-has
returns-clause-has c =
    let counts = c.self.inside.counts.items in
    let lt : c.args.node < length counts = rw c.self.view_is c.requires in
    let count : c.index_mut.result.now ≡ get_or counts c.args.node 0 = get_or_read counts c.args.node c.index_mut.result.now lt c.index_mut.ensures.value 0 in
    λ old more has from le. rw count (HasRoom-more counts c.args.node c.args.edges old more lt (subst (λ (l : List ℕ). HasRoom l old) (sym c.self.view_is) has) from le)
