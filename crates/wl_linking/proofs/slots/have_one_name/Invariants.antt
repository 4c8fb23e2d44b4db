use Rattle.wl_linking.proofs.SlotLaws.{Know}
use Rattle.wl_linking.proofs.slots.have_one_name.Given as goal

abbrev pub invariant-loop-symbol : goal.invariant-loop-symbol
invariant-loop-symbol l = Know l.kind l.count l.symbols l.symbol-index l.names.items
