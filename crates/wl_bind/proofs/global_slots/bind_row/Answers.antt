use Rattle.std.proofs.Common.{◌≡◌, ◌∙◌, ap, rules, sym, Some, slice_get}
use Rattle.std.proofs.lemmas.Option.{slice_get-get_or}
use Rattle.wl_custom.specs.declared.symbols.WasmSymbolKind.TheVariants.{Global}
use Rattle.wl_symbols.specs.ImportSlots.{ImportSlot, import_slots}
use Rattle.wl_lists.proofs.Places.{mapped_more}
use Rattle.wl_bind.specs.Resolutions.{global_resolution}
use Rattle.wl_bind.specs.Shared.{import_place}
use Rattle.wl_bind.proofs.HostLaws.{placed}
use Rattle.wl_bind.proofs.global_slots.bind_row.Goals as goal

pub bound_slot-requires-clause-kind : goal.bound_slot-requires-clause-kind
bound_slot-requires-clause-kind c =
    let objects = c.args.input.now.link.objects in
    let slots = c.deref-slot-items.result.now in
    let list : slots ≡ import_slots objects c.args.object Global = search rules in
    let here : slice_get slots c.loop-slot.slot-index ≡ Some c.slot-item.result =
    slice_get-get_or slots c.loop-slot.slot-index c.slot-item.result c.loop-slot-test.true ∙ ap (λ (t : ImportSlot). Some t) (sym c.slot-item.is) in
    (placed objects c.args.object Global c.loop-slot.slot-index c.slot-item.result (rw list at here)).kind_is

pub loop-slot-preserved : goal.loop-slot-preserved
loop-slot-preserved c =
    let input = c.args.input.now in
    let slots = c.deref-slot-items.result.now in
    let k = c.loop-slot.slot-index in
    let slot = c.slot-item.result in
    let old = c.loop-slot.row in
    let new = c.push.new.self in
    let lt = c.loop-slot-test.true in
    let told = c.loop-slot.invariant in
    record {
      resolutions = mapped_more (global_resolution input) slots k slot old.resolutions.items new.resolutions.items c.bound_slot.result.resolution lt c.slot-item.is
          c.bound_slot.ensures.resolution c.in_ok-push.ensures.resolutions told.resolutions;
      places = mapped_more (import_place input Global c.args.hosts.now) slots k slot old.places.items new.places.items c.bound_slot.result.place lt c.slot-item.is
          c.bound_slot.ensures.place c.in_ok-push.ensures.places told.places;
    }
