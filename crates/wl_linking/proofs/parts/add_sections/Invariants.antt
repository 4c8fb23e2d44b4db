use Rattle.std.proofs.Common.{take}
use Rattle.wl_linking.specs.Parts.{no_parts}
use Rattle.wl_linking.specs.Sections.{AreSound}
use Rattle.wl_linking.proofs.parts.add_sections.Given as goal

abbrev pub invariant-loop-section : goal.invariant-loop-section
invariant-loop-section l = AreSound l.sections no_parts (take l.section-index l.sections) l.parts
