use Rattle.std.proofs.Common.{◌∙◌, sym}
use Rattle.wl_bind.proofs.GotLaws.{named_there, named_new}
use Rattle.wl_bind.proofs.got.add.Goals as goal

pub returns-then-contains_key : goal.returns-then-contains_key
returns-then-contains_key g c =
    named_there g.K.PartialEq.eq c.args.key c.args.name c.args.entries.now.entries (sym c.contains_key.ensures ∙ c.if-contains_key.true)

pub returns : goal.returns
returns g c =
    named_new g.K.PartialEq.eq c.args.key c.args.name c.args.entries.now.entries c.insert.new.self.entries c.in_ok-insert.ensures.entries (sym c.contains_key.ensures ∙ c.if-contains_key.false)
