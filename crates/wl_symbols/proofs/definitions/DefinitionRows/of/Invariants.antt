use Rattle.std.proofs.Common.{◌≡◌, ◌≤◌, ◌+◌, length, take}
use Rattle.wl_symbols.specs.Entries.{entries_of, symbol_count}
use Rattle.wl_symbols.specs.Adding.{firsts_in}
use Rattle.wl_symbols.specs.Definitions.{defined_by, rows_from}
use Rattle.wl_symbols.proofs.definitions.DefinitionRows.of.Given as goal

abbrev pub invariant-loop-object : goal.invariant-loop-object
invariant-loop-object g l = record {
  rows : l.rows ≡ rows_from (defined_by (firsts_in l.names.names.firsts) l.args) 0 (take l.object l.files);
  counted : l.steps ≡ l.initial.steps + length (entries_of 0 (take l.object l.files));
  cost : l.steps ≤ l.initial.steps + symbol_count (take l.object l.files);
}
