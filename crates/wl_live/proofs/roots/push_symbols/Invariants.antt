use Rattle.std.proofs.Common.{◌≡◌, ◌++◌, drop}
use Rattle.wl_live.specs.Table.{symbol_roots}
use Rattle.wl_live.proofs.roots.push_symbols.Given as goal

abbrev pub invariant-loop-i : goal.invariant-loop-i
invariant-loop-i l = l.list.items ++ symbol_roots l.symbols l.numbers l.object l.i (drop l.i l.listed) ≡ l.fn.list.items ++ symbol_roots l.symbols l.numbers l.object 0 l.listed
