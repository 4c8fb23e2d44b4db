use Rattle.std.proofs.Common.{◌≡◌, fold}
use Rattle.wl_symbols.specs.KeptRelocations.{relocations_left}
use Rattle.wl_bind.specs.steps.Scanning.{found_at, found_in}
use Rattle.wl_bind.specs.steps.Walks.{found_by}
use Rattle.wl_bind.proofs.scanning.walk_relocations.Given as goal

abbrev pub invariant-loop-relocated : goal.invariant-loop-relocated
invariant-loop-relocated l =
    fold (found_at l.check.input.now) (found_by l.walk) (relocations_left l.relocated-iterator) ≡ found_in l.check.input.now
