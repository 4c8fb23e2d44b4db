use Rattle.std.proofs.Common.{◌≤◌, ◌+◌, ◌*◌, take, length, None}
use Rattle.wl_symbols.specs.Adding.{firsts_in}
use Rattle.wl_symbols.specs.Index.{all_entries}
use Rattle.wl_symbols.specs.Bearers.{found_in}
use Rattle.wl_symbols.specs.Telling.{Tells}
use Rattle.wl_symbols.proofs.telling.tell_objects.Given as goal

abbrev pub invariant-loop-entries : goal.invariant-loop-entries
invariant-loop-entries g l = record {
  tells : Tells (found_in l.lists.lists) (firsts_in l.initial.names.names.firsts) (firsts_in l.names.names.firsts) (all_entries (take l.entries-index l.objects)) l.initial.steps l.steps None;
  cost : l.steps ≤ l.initial.steps + 2 * length (all_entries (take l.entries-index l.objects));
}
