use Rattle.std.proofs.Common.{◌≡◌, ◌++◌, drop, map}
use Rattle.wl_bind.specs.UndefinedSteps.{as_undefined}
use Rattle.wl_bind.proofs.undefined.UndefinedNames.symbols.Given as goal

abbrev pub invariant-loop-object : goal.invariant-loop-object
invariant-loop-object l = l.symbols ++ map as_undefined (drop l.object-index l.names) ≡ map as_undefined l.names
