use Rattle.std.proofs.Common.{◌≡◌, ◌++◌, filter, not}
use Rattle.wl_symbols.specs.ImportSlots.{ImportSlot as Slot}
use Rattle.wl_symbols.specs.LeftSteps.{is_told_stub}
use Rattle.wl_symbols.proofs.left.split_slots.Given as goal

abbrev pub invariant-loop-slot : goal.invariant-loop-slot
invariant-loop-slot l = record {
  stub_slots : l.stub_slots.items ++ filter (λ (t : Slot). is_told_stub l.names t.item.name) l.slot-iterator.rest.items
      ≡ filter (λ (t : Slot). is_told_stub l.names t.item.name) l.fn.slots.items;
  host_slots : l.host_slots.items ++ filter (λ (t : Slot). not (is_told_stub l.names t.item.name)) l.slot-iterator.rest.items
      ≡ filter (λ (t : Slot). not (is_told_stub l.names t.item.name)) l.fn.slots.items;
}
