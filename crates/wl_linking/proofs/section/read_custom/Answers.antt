use Rattle.std.proofs.Common.{◌∙◌, sym, ap}
use Rattle.std.proofs.lemmas.Result.{err_from_is_err_and}
use Rattle.wl_module.specs.Sections.{Section}
use Rattle.wl_linking.specs.Targets.{custom_kind}
use Rattle.wl_linking.proofs.SectionLaws.{reloc_sound, reloc_fails}
use Rattle.wl_linking.proofs.section.read_custom.Goals as goal

pub returns-in_err-read_reloc_section-in-Reloc : goal.returns-in_err-read_reloc_section-in-Reloc
returns-in_err-read_reloc_section-in-Reloc c =
    let p = err_from_is_err_and c.from_residual-in_err-read_reloc_section-in-Reloc.result c.from_residual-in_err-read_reloc_section-in-Reloc.ensures.1 in
    let payload = ap (λ (x : Section). x.payload) c.section.view_is in
    let kind = ap (λ (x : Section). custom_kind x.name) (sym c.section.view_is) ∙ ap custom_kind (sym c.as_bytes.ensures.value) ∙ sym c.custom_kind.ensures ∙ c.in-Reloc.is in
    rw (p.1, p.2) (reloc_fails c.args.sections.now c.args.before.now c.args.section.now c.in_err-read_reloc_section-in-Reloc.field-0.0 kind (rw payload at c.in_err-read_reloc_section-in-Reloc.ensures))

pub returns-in_ok-read_reloc_section-in-Reloc : goal.returns-in_ok-read_reloc_section-in-Reloc
returns-in_ok-read_reloc_section-in-Reloc c =
    let payload = ap (λ (x : Section). x.payload) c.section.view_is in
    let kind = ap (λ (x : Section). custom_kind x.name) (sym c.section.view_is) ∙ ap custom_kind (sym c.as_bytes.ensures.value) ∙ sym c.custom_kind.ensures ∙ c.in-Reloc.is in
    reloc_sound c.args.sections.now c.args.before.now c.args.section.now c.in_ok-read_reloc_section-in-Reloc.field-0 kind (rw payload at c.in_ok-read_reloc_section-in-Reloc.ensures)
