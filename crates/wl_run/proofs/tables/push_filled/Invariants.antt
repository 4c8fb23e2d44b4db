use Rattle.std.proofs.Common.{◌≡◌, ◌++◌, map, take, Some}
use Rattle.wl_run.proofs.tables.push_filled.Given as goal

abbrev pub invariant-loop-function : goal.invariant-loop-function
invariant-loop-function l = l.slots.items ≡ l.fn.slots.items ++ map Some (take l.function-index l.elements)
