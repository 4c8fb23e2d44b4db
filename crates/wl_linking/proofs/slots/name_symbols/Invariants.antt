use Rattle.std.proofs.Common.{◌≡◌, ◌++◌, map, take, drop}
use Rattle.wl_linking.specs.Slots.{with_import_name}
use Rattle.wl_linking.proofs.slots.name_symbols.Given as goal

abbrev pub invariant-loop-i : goal.invariant-loop-i
invariant-loop-i l = l.list.items ≡ map (with_import_name l.functions l.globals) (take l.i l.initial.list.items) ++ drop l.i l.initial.list.items
