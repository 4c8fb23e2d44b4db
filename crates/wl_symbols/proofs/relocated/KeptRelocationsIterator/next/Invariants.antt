use Rattle.std.proofs.Common.{◌≡◌, ◌-◌, length}
use Rattle.wl_symbols.specs.KeptRelocations.{relocations_left}
use Rattle.wl_symbols.proofs.relocated.KeptRelocationsIterator.next.Given as goal

abbrev pub invariant-objects : goal.invariant-objects
invariant-objects l = relocations_left l.self ≡ relocations_left l.fn.self

abbrev pub decreases-objects : goal.decreases-objects
decreases-objects l = length l.self.files.now - l.self.next
