use Rattle.std.proofs.Common.{◌≡◌, ℕ, List, take}
use Rattle.wl_symbols.specs.Left.{is_stub_name}
use Rattle.wl_symbols.specs.LeftSteps.{is_told_stub}
use Rattle.wl_symbols.proofs.left.stub_names.Given as goal

abbrev pub invariant-loop-slot : goal.invariant-loop-slot
invariant-loop-slot l = (name : List ℕ)
    → is_told_stub l.names name ≡ is_stub_name l.table.objects (take l.slot-index l.slots) name
