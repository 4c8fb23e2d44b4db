use Rattle.std.proofs.Common.{sym, ◌∙◌, ap, length, arith, ◌≡◌}
use Rattle.wl_reach.proofs.GraphLaws.{length-stretches}
use Rattle.wl_reach.proofs.graph.Graph.len.Goals as goal

pub returns : goal.returns
returns c =
    let size : c.len.result ≡ length c.self.inside.starts.items = omega (arith, c.len.ensures) in
    size ∙ (sym (length-stretches c.self.inside.starts.items c.self.inside.ends.items c.self.inside.targets.items) ∙ ap length c.self.view_is)
