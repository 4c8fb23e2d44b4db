use Rattle.std.proofs.Common.{take}
use Rattle.wl_bind.specs.steps.Numbered.{AreObjectIndices}
use Rattle.wl_bind.specs.Parts.{AreRows}
use Rattle.wl_bind.proofs.numbering.Numbering.rows_of.Given as goal

abbrev pub invariant-loop-object : goal.invariant-loop-object
invariant-loop-object l =
    AreRows (AreObjectIndices l.self.input.now l.own) 0 (take l.object l.self.input.now.link.objects) l.rows.items
