use Rattle.std.proofs.Common.{◌≡◌, ◌≤◌, take, filter, length}
use Rattle.wl_exports.specs.Exports.{exports}
use Rattle.wl_exports.specs.Wrappers.{can_wrap}
use Rattle.wl_exports.proofs.wrappers.count_wrappers.Given as goal

abbrev pub invariant-loop-export : goal.invariant-loop-export
invariant-loop-export l = record {
  few : l.count ≤ l.export-index;
  counted : l.count ≡ length (filter can_wrap (take l.export-index (exports l.input)));
}
