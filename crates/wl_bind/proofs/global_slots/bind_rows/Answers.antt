use Rattle.std.proofs.Common.{◌<◌, rules, length}
use Rattle.wl_custom.specs.declared.symbols.WasmSymbolKind.TheVariants.{Global}
use Rattle.wl_bind.specs.Resolutions.{global_resolution}
use Rattle.wl_bind.specs.Shared.{import_place, import_places}
use Rattle.wl_bind.specs.SlotRows.{slot_rows}
use Rattle.wl_bind.proofs.RowLaws.{row_pushed}
use Rattle.wl_bind.proofs.global_slots.bind_rows.Goals as goal

pub loop-object-preserved : goal.loop-object-preserved
loop-object-preserved c =
    let input = c.args.input.now in
    let hosts = c.args.hosts.now in
    let objects = input.link.objects in
    let k = c.loop-object.object in
    let lt : k < length objects = search rules in
    let row = c.in_ok-row.row in
    let old = c.loop-object.rows in
    let new = c.push.new.self in
    let told = c.loop-object.invariant in
    record {
      resolutions = row_pushed (global_resolution input) Global objects k row.resolutions.items old.resolutions.items new.resolutions.items
          (slot_rows (global_resolution input) Global 0 objects) lt
          c.in_ok-row.ensures.resolutions c.in_ok-push.ensures.resolutions told.resolutions;
      places = row_pushed (import_place input Global hosts) Global objects k row.places.items old.places new.places
          (import_places input Global hosts) lt c.in_ok-row.ensures.places c.in_ok-push.ensures.places told.places;
    }
