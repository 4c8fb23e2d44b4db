use Rattle.std.proofs.Common.{◌≡◌, ◌++◌, drop}
use Rattle.wl_live.specs.Facts.{slot_uses_from}
use Rattle.wl_live.proofs.object_facts.push_slots.Given as goal

abbrev pub invariant-loop-i : goal.invariant-loop-i
invariant-loop-i l = l.list.items ++ slot_uses_from l.counts l.i (drop l.i l.listed) ≡ l.fn.list.items ++ slot_uses_from l.counts 0 l.listed
