use Rattle.std.proofs.Common.{sym, ◌∙◌, ap, length}
use Rattle.wl_reach.proofs.MarkLaws.{length-unpacked}
use Rattle.wl_reach.proofs.marks.Marks.len.Goals as goal

pub returns : goal.returns
returns c = sym (length-unpacked c.self.inside.len c.self.inside.words.items) ∙ ap length c.self.view_is
