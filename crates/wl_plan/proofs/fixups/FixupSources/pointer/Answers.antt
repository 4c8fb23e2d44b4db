use Rattle.std.proofs.Common.{◌∙◌, sym}
use Rattle.wl_plan.proofs.FieldLaws.{object_of, object_within}
use Rattle.wl_plan.proofs.FixupLaws.{map_of, maps_within}
use Rattle.wl_plan.proofs.TakenLaws.{pointer_found, pointer_none}
use Rattle.wl_plan.proofs.fixups.FixupSources.pointer.Goals as goal

pub map_at-requires : goal.map_at-requires
map_at-requires c =
    let s = c.args.self.now in
    maps_within s.book.now.input.now s.book.now.placing.now s.maps.now c.args.relocated.now.object
    c.requires.sources.maps
    (object_within s.book.now.input.now c.args.relocated.now c.requires.kept)

pub returns-in-Some : goal.returns-in-Some
returns-in-Some c =
    let s = c.args.self.now in
    let input = s.book.now.input.now in
    let g = s.book.now.placing.now in
    let r = c.args.relocated.now in
    let from = object_of input r c.requires.kept in
    let map = map_of input g s.maps.now r.object from.object c.map_at.result.now
    c.requires.sources.maps from.here c.map_at.ensures in
    c.deferred_tls_template_pointer.ensures
    ∙ pointer_found input g r from.object c.map_at.result.now _ from.here map
    (sym c.template_start.ensures ∙ c.in-Some.is)

pub returns-in-None : goal.returns-in-None
returns-in-None c =
    let s = c.args.self.now in
    sym (pointer_none s.book.now.input.now s.book.now.placing.now c.args.relocated.now
    (sym c.template_start.ensures ∙ c.in-None.is))
