use Rattle.std.proofs.Common.{◌≡◌, take}
use Rattle.wl_symbols.specs.Entries.{entries_from}
use Rattle.wl_symbols.proofs.gathering.gather.Given as goal

abbrev pub invariant-loop-i : goal.invariant-loop-i
invariant-loop-i l = l.list.items ≡ entries_from l.object 0 (take l.i l.symbols)
