use Rattle.std.proofs.Common.{◌≡◌, drop, max}
use Rattle.wl_places.specs.steps.Placing.{imported_memories, most_pages}
use Rattle.wl_places.proofs.placing.imported_pages.Given as goal

abbrev pub invariant-loop-import : goal.invariant-loop-import
invariant-loop-import l =
    max l.pages (most_pages (imported_memories (drop l.import-index l.imports)))
    ≡ most_pages (imported_memories l.imports)
