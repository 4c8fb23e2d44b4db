use Rattle.std.proofs.Common.{◌≡◌, ◌++◌, drop}
use Rattle.wl_live.specs.Table.{forced_roots}
use Rattle.wl_words.specs.Texts.{texts}
use Rattle.wl_live.proofs.roots.push_forced.Given as goal

abbrev pub invariant-loop-name : goal.invariant-loop-name
invariant-loop-name l = l.list.items ++ forced_roots l.symbols l.numbers (texts (drop l.name-index l.names)) ≡ l.fn.list.items ++ forced_roots l.symbols l.numbers (texts l.names)
