use Rattle.std.proofs.Common.{◌≡◌, drop}
use Rattle.wl_symbols.specs.Names.{def}
use Rattle.wl_symbols.specs.SlotTargets.{first_some, object_target, by_definition}
use Rattle.wl_symbols.proofs.targets.by_definition.Given as goal

abbrev pub invariant-loop-symbol : goal.invariant-loop-symbol
invariant-loop-symbol l = by_definition l.table l.slot ≡ first_some (λ k. object_target l.table l.slot.kind (def l.table l.slot.object k)) (drop l.symbol-index l.symbol-items)
