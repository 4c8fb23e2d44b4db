use Rattle.std.proofs.Common.{◌∙◌, ap, Option}
use Rattle.std.specs.Option.{unwrap_or}
use Rattle.wl_index.specs.declared.data_address.WasmDataAddress.{WasmDataAddress}
use Rattle.wl_index.specs.declared.data_address.WasmDataAddress.TheVariants.{Missing}
use Rattle.wl_plan.proofs.FieldLaws.{object_of, object_within}
use Rattle.wl_plan.proofs.FixupLaws.{address_found, map_of, maps_within}
use Rattle.wl_plan.proofs.fixups.FixupSources.address.Goals as goal

pub map_at-map-requires : goal.map_at-map-requires
map_at-map-requires c =
    let s = c.args.self.now in
    maps_within s.book.now.input.now s.book.now.placing.now s.maps.now c.args.relocated.now.object
    c.requires.sources.maps
    (object_within s.book.now.input.now c.args.relocated.now c.requires.kept)

pub returns : goal.returns
returns c =
    let s = c.args.self.now in
    let r = c.args.relocated.now in
    let from = object_of s.book.now.input.now r c.requires.kept in
    let map = map_of s.book.now.input.now s.book.now.placing.now s.maps.now r.object from.object c.map_at-map.result.now
    c.requires.sources.maps from.here c.map_at-map.ensures in
    c.unwrap_or.ensures
    ∙ (ap (λ (x : Option WasmDataAddress). unwrap_or x Missing) c.data_address.ensures
    ∙ address_found s.book.now.input.now s.book.now.placing.now r.object from.object c.map_at-map.result.now
    r.relocation.index from.here map)
