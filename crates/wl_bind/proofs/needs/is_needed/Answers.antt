use Rattle.std.proofs.Common.{◌∙◌}
use Rattle.wl_bind.proofs.NeedLaws.{bound_is}
use Rattle.wl_bind.proofs.needs.is_needed.Goals as goal

pub returns-else-is_asked : goal.returns-else-is_asked
returns-else-is_asked c input are =
    rw c.if-is_asked.false (c.any_row_leads_to.ensures
    ∙ bound_is input c.args.made c.args.rows.now are)
