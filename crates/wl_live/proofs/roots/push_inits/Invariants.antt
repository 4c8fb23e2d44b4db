use Rattle.std.proofs.Common.{◌≡◌, ◌++◌, drop}
use Rattle.wl_live.specs.Table.{init_roots}
use Rattle.wl_live.proofs.roots.push_inits.Given as goal

abbrev pub invariant-loop-function : goal.invariant-loop-function
invariant-loop-function l = l.list.items ++ init_roots l.symbols l.numbers l.object (drop l.function-index l.functions) ≡ l.fn.list.items ++ init_roots l.symbols l.numbers l.object l.functions
