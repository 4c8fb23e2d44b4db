use Rattle.std.proofs.Common.{◌≡◌, map, take}
use Rattle.wl_symbols.specs.SlotTargets.{slot_target}
use Rattle.wl_symbols.proofs.targets.slot_targets.Given as goal

abbrev pub invariant-loop-slot : goal.invariant-loop-slot
invariant-loop-slot l = l.list.items ≡ map (slot_target l.table) (take l.slot-index l.slot-items)
