use Rattle.wl_symbols.specs.Units.{units_of}
use Rattle.wl_symbols.proofs.NumberingLaws.{NumberedTo}
use Rattle.wl_symbols.proofs.unit_numbers.UnitNumbers.new.Given as goal

abbrev pub invariant-loop-file : goal.invariant-loop-file
invariant-loop-file l = NumberedTo (units_of l.file-items) l.file-index l.counts.items l.bases.items l.total
