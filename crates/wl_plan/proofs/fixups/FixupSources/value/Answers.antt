use Rattle.std.proofs.Common.{◌≡◌, ◌∙◌, List, Some, ap, slice_get, sym}
use Rattle.wl_linking.specs.Object.{Object}
use Rattle.wl_plan.proofs.FieldLaws.{object_within}
use Rattle.wl_plan.proofs.FixupLaws.{Laws, answers_of, maps_within}
use Rattle.wl_plan.proofs.SlotLaws.{TableLaws}
use Rattle.wl_plan.proofs.fixups.FixupSources.value.Goals as goal

pub file_at-file-requires : goal.file_at-file-requires
file_at-file-requires c =
    let s = c.args.self.now in
    let within = object_within s.book.now.input.now c.args.relocated.now c.requires.kept in
    rw (c.as_slice.ensures.objects, c.files.ensures.objects) within

pub map_at-requires : goal.map_at-requires
map_at-requires c =
    let s = c.args.self.now in
    maps_within s.book.now.input.now s.book.now.placing.now s.maps.now c.args.relocated.now.object
    c.requires.sources.maps
    (object_within s.book.now.input.now c.args.relocated.now c.requires.kept)

pub returns : goal.returns
returns c =
    let s = c.args.self.now in
    let r = c.args.relocated.now in
    let laws : Laws = record {
      types = c.references_are_kept.ensures.types;
      symbols = c.references_are_kept.ensures.symbols;
      functions = c.references_are_kept.ensures.functions;
      globals = c.references_are_kept.ensures.globals;
      slots = c.references_are_kept.ensures.slots;
    } in
    let table : TableLaws = record {
      once = c.table_functions_stand_once.ensures.table;
      itself = c.same_targets_are_one.ensures.itself;
    } in
    let here : slice_get s.book.now.input.now.link.objects r.object ≡ Some c.file_at-file.result.now =
    ap (λ (os : List Object). slice_get os r.object)
    (sym (c.as_slice.ensures.objects ∙ c.files.ensures.objects)) ∙ c.file_at-file.ensures in
    answers_of s r c.file_at-file.result.now c.map_at.result.now c.symbols-symbols.result.now
    c.resolve_reloc.result laws table c.requires.sources c.requires.kept here c.map_at.ensures
    c.symbols-symbols.ensures c.resolve_reloc.ensures
