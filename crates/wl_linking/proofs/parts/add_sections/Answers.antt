use Rattle.std.proofs.Common.{arith}
use Rattle.std.proofs.lemmas.Result.{err_from_is_err_and}
use Rattle.wl_linking.specs.Sections.{EndsWithin, section_context}
use Rattle.wl_linking.proofs.HeldLaws.{spelled}
use Rattle.wl_linking.proofs.ImportPlaces.{named_within}
use Rattle.wl_linking.proofs.PartLaws.{reads_more, reads_fault, all_get}
use Rattle.wl_linking.proofs.parts.add_sections.Goals as goal

pub returns-in_err-items : goal.returns-in_err-items
returns-in_err-items c =
    let p = err_from_is_err_and c.from_residual.result c.from_residual.ensures.1 in
    let here = rw c.section-item.is at c.in_err-items.ensures in
    rw (p.1, p.2) (reads_fault c.args.sections.now c.loop-section.section-index c.section-item.result c.loop-section.parts c.in_err-items.field-0.0 (omega arith) c.loop-section.invariant here)

pub add-requires : goal.add-requires
add-requires c =
    let s = c.section-item.result in
    named_within s.kind s c.in_ok-items.items (rw (← c.section-item.is) at (all_get EndsWithin c.args.sections.now c.loop-section.section-index s c.requires.sections (omega arith)))
    (spelled s.kind (section_context c.args.sections.now c.loop-section.parts) s c.in_ok-items.items s.payload c.in_ok-items.ensures)

pub loop-section-preserved : goal.loop-section-preserved
loop-section-preserved c =
    let here = rw c.section-item.is at c.in_ok-items.ensures in
    rw c.in_ok-add.ensures (reads_more c.args.sections.now c.loop-section.section-index c.section-item.result c.loop-section.parts c.in_ok-items.items (omega arith) c.loop-section.invariant here)
