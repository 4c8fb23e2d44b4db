use Rattle.std.proofs.Common.{◌≡◌, ◌++◌, drop, filter}
use Rattle.wl_symbols.specs.KeptSlots.{slots_from, is_kept_slot, kept_slots, is_left_slot}
use Rattle.wl_symbols.proofs.kept_imports.left_slots.Given as goal

abbrev pub invariant-loop-object : goal.invariant-loop-object
invariant-loop-object l =
    l.left.items ++ filter (is_left_slot l.input) (filter (is_kept_slot l.input) (slots_from l.kind l.object (drop l.object l.input.link.objects)))
    ≡ filter (is_left_slot l.input) (kept_slots l.input l.kind)
