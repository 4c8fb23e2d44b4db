use Rattle.std.proofs.Common.{◌≡◌, rules, sym, Contains}
use Rattle.wl_custom.specs.declared.symbols.WasmSymbolKind.TheVariants.{Func}
use Rattle.wl_symbols.specs.ImportSlots.{import_slots}
use Rattle.wl_lists.proofs.Places.{mapped_more}
use Rattle.wl_bind.specs.FunctionSymbols.{kept_binding}
use Rattle.wl_bind.specs.Resolutions.{function_resolution}
use Rattle.wl_bind.specs.Shared.{function_imports, import_place}
use Rattle.wl_bind.proofs.RowLaws.{slot_is_one}
use Rattle.wl_bind.proofs.function_slots.bind_row.Goals as goal

pub bound_slot-bound-requires-clause-here : goal.bound_slot-bound-requires-clause-here
bound_slot-bound-requires-clause-here c =
    let objects = c.args.input.now.link.objects in
    let list : c.as_slice-slot-items.result.now ≡ import_slots objects c.args.object Func = search rules in
    let among : Contains c.as_slice-slot-items.result.now c.slot-item.result = (c.loop-slot.slot-index, c.loop-slot-test.true, sym c.slot-item.is) in
    slot_is_one Func objects c.args.object c.slot-item.result (rw list at among)

pub loop-slot-preserved : goal.loop-slot-preserved
loop-slot-preserved c =
    let input = c.args.input.now in
    let slots = c.as_slice-slot-items.result.now in
    let k = c.loop-slot.slot-index in
    let slot = c.slot-item.result in
    let old = c.loop-slot.row in
    let new = c.push-in-loop-slot.new.self in
    let lt = c.loop-slot-test.true in
    let told = c.loop-slot.invariant in
    record {
      targets = mapped_more (kept_binding input) slots k slot old.targets.items c.push.new.self.items c.bound_slot-bound.result.target lt c.slot-item.is
          c.bound_slot-bound.ensures.target c.in_ok-push.ensures.items told.targets;
      resolutions = mapped_more (function_resolution input) slots k slot old.slots.resolutions.items new.resolutions.items c.bound_slot-bound.result.slot.resolution lt
          c.slot-item.is c.bound_slot-bound.ensures.resolution c.in_ok-push-2.ensures.resolutions told.resolutions;
      places = mapped_more (import_place input Func (function_imports input)) slots k slot old.slots.places.items new.places.items c.bound_slot-bound.result.slot.place lt
          c.slot-item.is c.bound_slot-bound.ensures.place c.in_ok-push-2.ensures.places told.places;
    }
