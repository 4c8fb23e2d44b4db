use Rattle.std.proofs.Common.{subst, List}
use Rattle.std.proofs.lemmas.List.{drop_all}
use Rattle.wl_linking.specs.Object.{Object}
use Rattle.wl_live.specs.Facts.{AreAllFacts}
use Rattle.wl_live.proofs.FactLaws.{Gathered-all}
use Rattle.wl_live.proofs.object_facts.all_facts.Goals as goal

pub returns : goal.returns
returns c =
    let files = c.as_slice-file-items.result.now in
    subst (λ (l : List Object). AreAllFacts l c.loop-file.list.items) c.as_slice-file-items.ensures.objects
    (Gathered-all files c.loop-file.file-index c.loop-file.list.items c.loop-file.invariant (drop_all c.loop-file.file-index files c.loop-file-test.false))
