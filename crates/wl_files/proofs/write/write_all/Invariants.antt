use Rattle.std.proofs.Common.{◌≡◌, length}
use Rattle.wl_files.proofs.Writing.{WritesOn}
use Rattle.wl_files.proofs.write.write_all.Given as goal

abbrev pub invariant-loop-rest : goal.invariant-loop-rest
invariant-loop-rest g l = record {
  written : WritesOn (g.S.Sink.state l.fn.sink) (g.S.Sink.state l.sink) l.text l.rest;
  clean : (g.S.Sink.state l.sink).faults ≡ (g.S.Sink.state l.fn.sink).faults;
  calm : g.S.Sink.takes_more l.fn.sink (length l.text) → g.S.Sink.takes_more l.sink (length l.rest) × ((g.S.Sink.state l.sink).faults ≡ (g.S.Sink.state l.fn.sink).faults);
}

abbrev pub decreases-loop-rest : goal.decreases-loop-rest
decreases-loop-rest g l = length l.rest
