use Rattle.std.proofs.Common.{◌≡◌, drop, length}
use Rattle.wl_live.specs.Numbering.{numbering_units, with_units}
use Rattle.wl_live.proofs.numbering.mark_object.Given as goal

abbrev pub invariant-loop-used : goal.invariant-loop-used
invariant-loop-used l = record {
  each : length l.marks ≡ length l.fn.marks;
  marks : with_units l.numbers l.marks (numbering_units l.object (drop l.used-index l.segments))
      ≡ with_units l.numbers l.fn.marks (numbering_units l.object l.segments);
}
