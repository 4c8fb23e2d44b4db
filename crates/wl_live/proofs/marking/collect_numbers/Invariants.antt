use Rattle.std.proofs.Common.{◌≡◌, ◌++◌, drop}
use Rattle.wl_symbols.specs.Units.{unit_number_if}
use Rattle.wl_live.specs.Table.{found}
use Rattle.wl_live.proofs.marking.collect_numbers.Given as goal

abbrev pub invariant-loop-unit : goal.invariant-loop-unit
invariant-loop-unit l = l.list.items ++ found (unit_number_if l.numbers) (drop l.unit-index l.units) ≡ found (unit_number_if l.numbers) l.units
