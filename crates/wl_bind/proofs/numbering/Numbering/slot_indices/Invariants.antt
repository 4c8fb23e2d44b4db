use Rattle.std.specs.List.{AllZip}
use Rattle.std.proofs.Common.{take}
use Rattle.wl_symbols.specs.ImportSlots.{import_slots}
use Rattle.wl_bind.specs.steps.Numbered.{IsSlotIndex}
use Rattle.wl_bind.proofs.numbering.Numbering.slot_indices.Given as goal

abbrev pub invariant-loop-slot : goal.invariant-loop-slot
invariant-loop-slot l =
    AllZip (IsSlotIndex l.self l.kind)
    (take l.slot (import_slots l.self.input.now.link.objects l.object l.kind)) l.indices
