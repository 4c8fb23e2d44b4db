use Rattle.std.proofs.Common.{◌∙◌, sym}
use Rattle.wl_bind.specs.GotSteps.{named}
use Rattle.wl_bind.specs.Scan.{Named}
use Rattle.wl_lists.proofs.Found.{position_map}
use Rattle.wl_bind.proofs.got.GotList.place.Goals as goal

pub returns : goal.returns
returns g c =
    let es = c.self.inside.entries.entries in
    let eq = g.K.PartialEq.eq in
    rw (← c.self.view_is) (c.get_index_of.ensures.index ∙ position_map (λ e. e.0) (eq c.args.key) es
    ∙ sym (position_map named (λ (e : Named g.row.K.Denot). eq c.args.key e.key) es))
