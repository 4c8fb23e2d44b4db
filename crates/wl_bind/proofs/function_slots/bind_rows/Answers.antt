use Rattle.std.proofs.Common.{◌<◌, rules, length}
use Rattle.wl_custom.specs.declared.symbols.WasmSymbolKind.TheVariants.{Func}
use Rattle.wl_bind.specs.FunctionSymbols.{kept_binding, function_bindings}
use Rattle.wl_bind.specs.Resolutions.{function_resolution}
use Rattle.wl_bind.specs.Shared.{function_imports, import_place, import_places}
use Rattle.wl_bind.specs.SlotRows.{slot_rows}
use Rattle.wl_bind.proofs.RowLaws.{row_pushed}
use Rattle.wl_bind.proofs.function_slots.bind_rows.Goals as goal

pub loop-object-preserved : goal.loop-object-preserved
loop-object-preserved c =
    let input = c.args.input.now in
    let objects = input.link.objects in
    let k = c.loop-object.object in
    let lt : k < length objects = search rules in
    let row = c.bind_row.new.row in
    let old = c.loop-object.rows in
    let new = c.push-in-loop-object.new.self in
    let told = c.loop-object.invariant in
    record {
      targets = row_pushed (kept_binding input) Func objects k row.targets.items c.loop-object.targets c.push.new.self (function_bindings input) lt
          c.in_ok-bind_row.ensures.targets c.in_ok-push.ensures.ok told.targets;
      resolutions = row_pushed (function_resolution input) Func objects k row.slots.resolutions.items old.resolutions.items new.resolutions.items
          (slot_rows (function_resolution input) Func 0 objects) lt
          c.in_ok-bind_row.ensures.resolutions c.in_ok-push-2.ensures.resolutions told.resolutions;
      places = row_pushed (import_place input Func (function_imports input)) Func objects k row.slots.places.items old.places new.places
          (import_places input Func (function_imports input)) lt c.in_ok-bind_row.ensures.places c.in_ok-push-2.ensures.places told.places;
    }
