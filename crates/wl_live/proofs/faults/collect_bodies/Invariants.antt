use Rattle.wl_live.specs.Facts.{FaultsOfBodies}
use Rattle.wl_live.proofs.FactLaws.{Numbered}
use Rattle.wl_live.proofs.faults.collect_bodies.Given as goal

abbrev pub invariant-loop-i : goal.invariant-loop-i
invariant-loop-i l = record {
  segments : Numbered l.bodies l.i l.segments.items;
  faults : FaultsOfBodies l.file l.i l.faults.items;
}
