use Rattle.std.proofs.Common.{◌≤◌, ◌+◌, ◌*◌, take, None}
use Rattle.wl_symbols.specs.Adding.{firsts_in}
use Rattle.wl_symbols.specs.Bearers.{found_in}
use Rattle.wl_symbols.specs.Telling.{Tells}
use Rattle.wl_symbols.proofs.telling.tell_entries.Given as goal

abbrev pub invariant-loop-entry : goal.invariant-loop-entry
invariant-loop-entry g l = record {
  tells : Tells (found_in l.lists.lists) (firsts_in l.initial.names.names.firsts) (firsts_in l.names.names.firsts) (take l.entry-index l.entries) l.initial.steps l.steps None;
  cost : l.steps ≤ l.initial.steps + 2 * l.entry-index;
}
