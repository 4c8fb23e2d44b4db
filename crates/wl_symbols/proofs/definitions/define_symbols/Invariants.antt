use Rattle.std.proofs.Common.{◌≡◌, ◌+◌, length, take}
use Rattle.wl_symbols.specs.Entries.{entries_from}
use Rattle.wl_symbols.specs.Adding.{firsts_in}
use Rattle.wl_symbols.specs.Definitions.{defined_by, row_from}
use Rattle.wl_symbols.proofs.definitions.define_symbols.Given as goal

abbrev pub invariant-loop-i : goal.invariant-loop-i
invariant-loop-i g l = record {
  row : l.row.items ≡ row_from (defined_by (firsts_in l.names.names.firsts) l.args l.object) 0 (take l.i l.symbols);
  counted : l.steps ≡ l.initial.steps + length (entries_from l.object 0 (take l.i l.symbols));
}
