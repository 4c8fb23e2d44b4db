use Rattle.std.proofs.Common.{◌≡◌, take}
use Rattle.wl_symbols.specs.ImportSlots.{slot_imports, numbered_slots}
use Rattle.wl_symbols.proofs.slots.fill_from.Given as goal

abbrev pub invariant-loop-i : goal.invariant-loop-i
invariant-loop-i l = l.slots.items ≡ numbered_slots l.object l.kind (take l.i l.symbols) 0 (slot_imports l.kind l.file.imports)
