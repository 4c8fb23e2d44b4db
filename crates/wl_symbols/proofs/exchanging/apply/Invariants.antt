use Rattle.std.proofs.Common.{◌≡◌, ◌≤◌, ℕ, List, length}
use Rattle.std.specs.HashMap.{spare}
use Rattle.wl_symbols.specs.Bearers.{found_in}
use Rattle.wl_symbols.specs.Exchanging.{changed}
use Rattle.wl_symbols.proofs.exchanging.apply.Given as goal

abbrev pub invariant-loop-change : goal.invariant-loop-change
invariant-loop-change l = record {
  found : (name : List ℕ) → changed l.changes.items (found_in l.lists.lists) name ≡ changed l.initial.changes.items (found_in l.initial.lists.lists) name;
  room : length l.changes.items ≤ spare l.lists.lists;
}

abbrev pub decreases-loop-change : goal.decreases-loop-change
decreases-loop-change l = length l.changes.items
