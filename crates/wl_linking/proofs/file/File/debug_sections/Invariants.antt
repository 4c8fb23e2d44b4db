use Rattle.std.proofs.Common.{◌≡◌, take}
use Rattle.wl_linking.proofs.file.File.debug_sections.Given as goal

abbrev pub invariant-loop-section : goal.invariant-loop-section
invariant-loop-section l = l.sections.items ≡ take l.section-index l.section-items
