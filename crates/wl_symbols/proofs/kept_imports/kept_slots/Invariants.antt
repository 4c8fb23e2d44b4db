use Rattle.std.proofs.Common.{◌≡◌, ◌++◌, drop, filter}
use Rattle.wl_symbols.specs.KeptSlots.{slots_from, is_kept_slot, kept_slots}
use Rattle.wl_symbols.proofs.kept_imports.kept_slots.Given as goal

abbrev pub invariant-loop-object : goal.invariant-loop-object
invariant-loop-object l =
    l.kept.items ++ filter (is_kept_slot l.input) (slots_from l.kind l.object (drop l.object l.input.link.objects)) ≡ kept_slots l.input l.kind
