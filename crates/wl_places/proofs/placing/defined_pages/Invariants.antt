use Rattle.std.proofs.Common.{◌≡◌, drop, max}
use Rattle.wl_places.specs.steps.Placing.{most_pages}
use Rattle.wl_places.proofs.placing.defined_pages.Given as goal

abbrev pub invariant-loop-memory : goal.invariant-loop-memory
invariant-loop-memory l =
    max l.pages (most_pages (drop l.memory-index l.memories)) ≡ most_pages l.memories
