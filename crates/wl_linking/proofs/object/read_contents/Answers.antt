use Rattle.std.proofs.Common.{◌∙◌, ap}
use Rattle.wl_bytes.specs.declared.reader.TheConstants.{MAX_LEN}
use Rattle.wl_module.specs.Sections.{headers_of}
use Rattle.wl_linking.proofs.FewLaws.{few_bodies, few_segments}
use Rattle.wl_linking.proofs.ImportPlaces.{parts_spanned}
use Rattle.wl_linking.proofs.ObjectLaws.{holds}
use Rattle.wl_linking.proofs.OnceLaws.{code_ascends, data_ascends}
use Rattle.wl_linking.proofs.PlacedLaws.{sections_within}
use Rattle.wl_linking.proofs.object.read_contents.Goals as goal

pub read_parts-requires : goal.read_parts-requires
read_parts-requires c = rw c.deref-2.ensures.value (sections_within c.args.bytes.now c.in_ok-sections.sections.items c.requires c.in_ok-sections.ensures.sound)

pub place-requires-clause-bodies : goal.place-requires-clause-bodies
place-requires-clause-bodies c = code_ascends c.args.bytes.now c.in_ok-sections.sections.items c.in_ok-parts.parts c.in_ok-sections.ensures.sound (rw c.deref-2.ensures.value at c.in_ok-parts.ensures)

pub place-requires-clause-spans : goal.place-requires-clause-spans
place-requires-clause-spans c = parts_spanned c.args.bytes.now c.in_ok-sections.sections.items c.in_ok-parts.parts c.requires c.in_ok-sections.ensures.sound (rw c.deref-2.ensures.value at c.in_ok-parts.ensures)

pub place-requires-clause-segments : goal.place-requires-clause-segments
place-requires-clause-segments c = data_ascends c.args.bytes.now c.in_ok-sections.sections.items c.in_ok-parts.parts c.in_ok-sections.ensures.sound (rw c.deref-2.ensures.value at c.in_ok-parts.ensures)

pub place-requires-clause-few_bodies : goal.place-requires-clause-few_bodies
place-requires-clause-few_bodies c =
    few_bodies MAX_LEN c.in_ok-sections.sections.items c.args.bytes.now c.in_ok-parts.parts
    c.in_ok-sections.ensures.sound (rw c.deref-2.ensures.value at c.in_ok-parts.ensures) c.requires

pub place-requires-clause-few_segments : goal.place-requires-clause-few_segments
place-requires-clause-few_segments c =
    few_segments MAX_LEN c.in_ok-sections.sections.items c.args.bytes.now c.in_ok-parts.parts
    c.in_ok-sections.ensures.sound (rw c.deref-2.ensures.value at c.in_ok-parts.ensures) c.requires

pub returns : goal.returns
returns c =
    let headers = c.new.ensures ∙ c.in_ok-headers.ensures ∙ ap headers_of c.deref.ensures.value in
    holds c.args.bytes.now c.in_ok-sections.sections.items c.in_ok-parts.parts c.place.result c.in_ok-sections.ensures.sound
    (rw c.deref-2.ensures.value at c.in_ok-parts.ensures) (rw headers at c.place.ensures)
