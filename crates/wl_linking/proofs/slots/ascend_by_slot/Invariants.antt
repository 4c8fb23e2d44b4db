use Rattle.wl_linking.proofs.SlotLaws.{Ascends}
use Rattle.wl_linking.proofs.slots.ascend_by_slot.Given as goal

abbrev pub invariant-loop-symbol : goal.invariant-loop-symbol
invariant-loop-symbol l = Ascends l.kind l.symbols l.symbol-index l.behind
