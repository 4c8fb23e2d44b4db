use Rattle.std.proofs.Common.{◌≡◌, drop}
use Rattle.wildplan.specs.Running.{exported_function}
use Rattle.wildplan.proofs.running.exported_function.Given as goal

abbrev pub invariant-loop-export : goal.invariant-loop-export
invariant-loop-export l =
    exported_function (drop l.export-index l.exports) l.name ≡ exported_function l.exports l.name
