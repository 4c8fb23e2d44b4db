use Rattle.std.proofs.Common.{◌≡◌, ◌≤◌, ◌++◌, [], drop}
use Rattle.wl_symbols.specs.ImportSlots.{slot_imports, numbered_slots}
use Rattle.wl_symbols.proofs.slots.fill_bare.Given as goal

abbrev pub invariant-loop-import : goal.invariant-loop-import
invariant-loop-import l = record {
  few : l.number ≤ l.import-index;
  slots : l.slots.items ++ numbered_slots l.object l.kind [] l.number (slot_imports l.kind (drop l.import-index l.import-items)) ≡ numbered_slots l.object l.kind [] 0 (slot_imports l.kind l.import-items);
}
