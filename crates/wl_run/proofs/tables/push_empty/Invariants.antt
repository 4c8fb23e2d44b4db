use Rattle.std.proofs.Common.{◌≡◌, ◌++◌, None, replicate}
use Rattle.wl_run.proofs.tables.push_empty.Given as goal

abbrev pub invariant-loop : goal.invariant-loop
invariant-loop l = l.slots.items ≡ l.fn.slots.items ++ replicate l.counter None
