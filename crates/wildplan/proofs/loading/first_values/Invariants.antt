use Rattle.std.proofs.Common.{ℕ, ◌+◌, drop, take}
use Rattle.std.specs.List.{AllZip}
use Rattle.wildplan.specs.Loading.{StartsWith, IsFirstUnread}
use Rattle.wildplan.proofs.loading.first_values.Given as goal

abbrev pub invariant-loop-i : goal.invariant-loop-i
invariant-loop-i l = record {
  values : AllZip StartsWith (take l.i l.globals) l.values.items;
  behind : (n : ℕ) → IsFirstUnread (drop l.i l.globals) n → IsFirstUnread l.globals (l.i + n);
}
