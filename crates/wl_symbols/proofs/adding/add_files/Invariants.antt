use Rattle.std.proofs.Common.{◌≡◌, ◌≤◌, ◌+◌, ◌*◌, length, take}
use Rattle.wl_symbols.specs.Entries.{entries_of, symbol_count}
use Rattle.wl_symbols.specs.Adding.{firsts_in, Adds}
use Rattle.wl_symbols.proofs.adding.add_files.Given as goal

abbrev pub invariant-loop-object : goal.invariant-loop-object
invariant-loop-object g l = record {
  adds : Adds (firsts_in l.initial.names.names.firsts) (firsts_in l.names.names.firsts) (entries_of 0 (take l.object l.files));
  counted : l.steps ≡ l.initial.steps + 2 * length (entries_of 0 (take l.object l.files));
  cost : l.steps ≤ l.initial.steps + 2 * symbol_count (take l.object l.files);
}
