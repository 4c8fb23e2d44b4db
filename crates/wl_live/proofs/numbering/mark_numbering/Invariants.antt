use Rattle.std.proofs.Common.{◌≡◌, drop, length, replicate, false}
use Rattle.wl_symbols.specs.Units.{total_of}
use Rattle.wl_live.specs.Numbering.{numbering_from, with_units}
use Rattle.wl_live.proofs.numbering.mark_numbering.Given as goal

abbrev pub invariant-loop-object : goal.invariant-loop-object
invariant-loop-object l = record {
  each : length l.marks ≡ total_of l.numbers;
  marks : with_units l.numbers l.marks (numbering_from l.object (drop l.object l.facts))
      ≡ with_units l.numbers (replicate (total_of l.numbers) false) (numbering_from 0 l.facts);
}
