use Rattle.std.proofs.Common.{drop, map}
use Rattle.wl_bind.specs.ConflictSteps.{same_slot}
use Rattle.wl_bind.proofs.ConflictLaws.{Met}
use Rattle.wl_bind.proofs.conflicts.check_types.Given as goal

abbrev pub invariant-loop-slot : goal.invariant-loop-slot
invariant-loop-slot l = Met l.input.link.objects (same_slot l.imports) l.slots (map (λ t. t.now) l.firsts.items) (drop l.slot-index l.slots)
