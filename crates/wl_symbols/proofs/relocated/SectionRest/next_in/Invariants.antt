use Rattle.std.proofs.Common.{◌≡◌, length}
use Rattle.wl_symbols.specs.KeptRelocations.{section_left}
use Rattle.wl_symbols.proofs.relocated.SectionRest.next_in.Given as goal

abbrev pub invariant-loop-relocation : goal.invariant-loop-relocation
invariant-loop-relocation l = section_left l.self ≡ section_left l.initial.self

abbrev pub decreases-loop-relocation : goal.decreases-loop-relocation
decreases-loop-relocation l = length l.self.listed.now
