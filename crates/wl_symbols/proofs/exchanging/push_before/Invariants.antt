use Rattle.std.proofs.Common.{◌≡◌, ◌++◌, take}
use Rattle.wl_symbols.specs.Exchanging.{bearers_before}
use Rattle.wl_symbols.proofs.exchanging.push_before.Given as goal

abbrev pub invariant-loop-bearer : goal.invariant-loop-bearer
invariant-loop-bearer l = l.list.items ≡ l.initial.list.items ++ bearers_before l.object (take l.bearer-index l.bearers)
