use Rattle.std.proofs.Common.{take}
use Rattle.wl_exports.specs.steps.Checking.{AreDistinct}
use Rattle.wl_exports.specs.steps.Names.{HoldsNames}
use Rattle.wl_exports.proofs.checking.check_distinct.Given as goal

abbrev pub invariant-loop-export : goal.invariant-loop-export
invariant-loop-export l = record {
  names : HoldsNames l.taken (take l.export-index l.exports);
  distinct : AreDistinct (take l.export-index l.exports);
}
