use Rattle.std.proofs.Common.{take}
use Rattle.wl_symbols.specs.Bearers.{found_in, Lists}
use Rattle.wl_symbols.proofs.exchanging.group.Given as goal

abbrev pub invariant-loop-entry : goal.invariant-loop-entry
invariant-loop-entry l = Lists (found_in l.map.lists) (take l.entry-index l.entries)
