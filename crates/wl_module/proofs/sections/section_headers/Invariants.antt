use Rattle.std.proofs.Common.{◌≡◌, take}
use Rattle.wl_module.specs.Sections.{headers_of}
use Rattle.wl_module.proofs.sections.section_headers.Given as goal

abbrev pub invariant-loop-section : goal.invariant-loop-section
invariant-loop-section l = l.headers.items ≡ headers_of (take l.section-index l.sections)
