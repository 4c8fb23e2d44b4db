use Rattle.std.proofs.Common.{◌≡◌, ◌++◌, drop}
use Rattle.wl_live.specs.Table.{export_roots}
use Rattle.wl_live.proofs.roots.push_exports.Given as goal

abbrev pub invariant-loop-export : goal.invariant-loop-export
invariant-loop-export l = l.list.items ++ export_roots l.numbers l.object (drop l.export-index l.exports) ≡ l.fn.list.items ++ export_roots l.numbers l.object l.exports
