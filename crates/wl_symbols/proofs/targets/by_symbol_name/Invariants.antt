use Rattle.std.proofs.Common.{◌≡◌, drop}
use Rattle.wl_symbols.specs.Names.{def}
use Rattle.wl_symbols.specs.SlotTargets.{first_some, made_target, by_symbol_name}
use Rattle.wl_symbols.proofs.targets.by_symbol_name.Given as goal

abbrev pub invariant-loop-symbol : goal.invariant-loop-symbol
invariant-loop-symbol l = by_symbol_name l.table l.slot ≡ first_some (λ k. made_target l.slot.kind (def l.table l.slot.object k)) (drop l.symbol-index l.symbol-items)
