use Rattle.wl_live.proofs.FactLaws.{Gathered}
use Rattle.wl_live.proofs.object_facts.all_facts.Given as goal

abbrev pub invariant-loop-file : goal.invariant-loop-file
invariant-loop-file l = Gathered l.file-items l.file-index l.list.items
