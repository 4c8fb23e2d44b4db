use Rattle.std.proofs.Common.{◌≡◌, ◌++◌, codes, drop}
use Rattle.std.specs.List.{flat_map}
use Rattle.wildplan.specs.Refusals.{undefined_text}
use Rattle.wildplan.proofs.refusal.undefined_line.Given as goal

abbrev pub invariant-loop-symbol : goal.invariant-loop-symbol
invariant-loop-symbol l = l.page ++ flat_map undefined_text (drop l.symbol-index l.symbols) ≡ codes "error: UndefinedSymbols" ++ flat_map undefined_text l.symbols
