use Rattle.std.proofs.Common.{◌≡◌, drop, false}
use Rattle.std.specs.List.{list_all}
use Rattle.std.specs.Option.{option_map_or}
use Rattle.wl_custom.specs.Symbols.{is_weak}
use Rattle.wl_symbols.specs.Entries.{symbol_in}
use Rattle.wl_symbols.specs.ImportSlots.{are_symbols_weak}
use Rattle.wl_symbols.proofs.slots.ImportSlot.are_symbols_weak.Given as goal

abbrev pub invariant-loop-symbol : goal.invariant-loop-symbol
invariant-loop-symbol l = are_symbols_weak l.table.objects l.self ≡ list_all (λ k. option_map_or is_weak (symbol_in l.table.objects l.self.object k) false) (drop l.symbol-index l.symbol-items)
