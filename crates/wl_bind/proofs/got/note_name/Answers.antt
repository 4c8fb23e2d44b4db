use Rattle.std.proofs.Common.{◌∙◌, sym}
use Rattle.wl_bind.proofs.GotLaws.{noted}
use Rattle.wl_bind.proofs.got.note_name.Goals as goal

pub returns : goal.returns
returns c =
    noted c.args.places.now c.insert.new.self c.args.name.now c.args.place (sym c.is_empty.ensures ∙ c.if-is_empty.false) (sym c.contains_key.ensures ∙ c.if-contains_key.false) c.in_ok-insert.ensures.updates
