use Rattle.wl_exports.proofs.WrapLaws.{IsWrappedSoFar}
use Rattle.wl_exports.proofs.wrappers.wrap_exports.Given as goal

abbrev pub invariant-loop-export : goal.invariant-loop-export
invariant-loop-export l = IsWrappedSoFar l.input l.export-index l.wrapped l.wrappers
