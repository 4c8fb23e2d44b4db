use Rattle.wl_plan.proofs.GotLaws.{AreGotUpTo}
use Rattle.wl_plan.proofs.threads.got_fixups.Given as goal

abbrev pub invariant-loop-place : goal.invariant-loop-place
invariant-loop-place l =
    AreGotUpTo l.sources.book.now.input.now l.sources.book.now.placing.now l.place l.fixups.items
