use Rattle.std.proofs.Common.{◌≡◌, ◌++◌, List, take}
use Rattle.wl_symbols.specs.Entries.{Entry}
use Rattle.wl_symbols.specs.Bearers.{found_in, Lists}
use Rattle.wl_symbols.specs.Exchanging.{changes_for}
use Rattle.wl_symbols.proofs.exchanging.push_changes.Given as goal

abbrev pub invariant-loop-entry : goal.invariant-loop-entry
invariant-loop-entry l = (new : List Entry) → Lists (found_in l.added.lists) new → l.changes.items ≡ l.initial.changes.items ++ changes_for (found_in l.lists.lists) l.object new (take l.entry-index l.entries)
