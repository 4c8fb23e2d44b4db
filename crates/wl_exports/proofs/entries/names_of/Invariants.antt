use Rattle.std.proofs.Common.{take}
use Rattle.wl_exports.specs.steps.Names.{HoldsNames}
use Rattle.wl_exports.proofs.entries.names_of.Given as goal

abbrev pub invariant-loop-export : goal.invariant-loop-export
invariant-loop-export l = HoldsNames l.names (take l.export-index l.exports)
