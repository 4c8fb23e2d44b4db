use Rattle.std.proofs.Common.{◌≡◌, ◌++◌, take}
use Rattle.wl_exports.specs.steps.Names.{HoldsNames, untaken}
use Rattle.wl_exports.proofs.entries.push_untaken.Given as goal

abbrev pub invariant-loop-export : goal.invariant-loop-export
invariant-loop-export l = record {
  names : HoldsNames l.taken (l.fn.exports.items ++ take l.export-index l.later);
  grown : l.exports.items ≡ l.fn.exports.items ++ untaken l.fn.exports.items (take l.export-index l.later);
}
