use Rattle.std.proofs.Common.{◌≡◌, take}
use Rattle.wl_symbols.specs.Bearers.{firsts_among}
use Rattle.wl_symbols.proofs.telling.firsts_among.Given as goal

abbrev pub invariant-loop-bearer : goal.invariant-loop-bearer
invariant-loop-bearer l = l.firsts ≡ firsts_among (take l.bearer-index l.bearers)
