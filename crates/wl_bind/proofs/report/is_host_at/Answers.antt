use Rattle.std.proofs.Common.{◌∙◌, ◌&&◌, Some, None, sym, ap, Bool}
use Rattle.wl_bind.specs.Later.{is_unresolved}
use Rattle.wl_bind.proofs.HostLaws.{told}
use Rattle.wl_bind.proofs.report.is_host_at.Goals as goal

pub returns-in-None : goal.returns-in-None
returns-in-None c =
    told c.args.input.now c.args.rows.now c.args.kind c.args.object c.args.number None c.requires.rows
    (sym c.in-None.is ∙ c.resolution_at.ensures)

pub returns-then-keeps_slot : goal.returns-then-keeps_slot
returns-then-keeps_slot c =
    c.is_unresolved.ensures
    ∙ (ap (λ (kept : Bool). kept && is_unresolved c.in-Some.resolution) (sym c.if-keeps_slot.true ∙ c.keeps_slot.ensures)
    ∙ told c.args.input.now c.args.rows.now c.args.kind c.args.object c.args.number (Some c.in-Some.resolution) c.requires.rows
    (sym c.in-Some.is ∙ c.resolution_at.ensures))

pub returns-else-keeps_slot : goal.returns-else-keeps_slot
returns-else-keeps_slot c =
    c.if-keeps_slot.false
    ∙ (ap (λ (kept : Bool). kept && is_unresolved c.in-Some.resolution) (sym c.if-keeps_slot.false ∙ c.keeps_slot.ensures)
    ∙ told c.args.input.now c.args.rows.now c.args.kind c.args.object c.args.number (Some c.in-Some.resolution) c.requires.rows
    (sym c.in-Some.is ∙ c.resolution_at.ensures))
