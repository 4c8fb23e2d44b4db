use Rattle.std.proofs.Common.{◌≡◌, ◌≤◌, ◌+◌, ◌*◌, length, take}
use Rattle.wl_symbols.specs.Entries.{entries_from}
use Rattle.wl_symbols.specs.Adding.{firsts_in, Adds}
use Rattle.wl_symbols.proofs.adding.add_symbols.Given as goal

abbrev pub invariant-loop-i : goal.invariant-loop-i
invariant-loop-i g l = record {
  adds : Adds (firsts_in l.initial.names.names.firsts) (firsts_in l.names.names.firsts) (entries_from l.object 0 (take l.i l.symbols));
  counted : l.steps ≡ l.initial.steps + 2 * length (entries_from l.object 0 (take l.i l.symbols));
  cost : l.steps ≤ l.initial.steps + 2 * l.i;
}
