use Rattle.wl_run.proofs.filling.FixupList.around.Goals as goal

pub stretch_of-requires : goal.stretch_of-requires
stretch_of-requires c = c.self.invariant c.if-self.true
