use Rattle.std.proofs.Common.{◌≡◌}
use Rattle.wl_module.specs.Imports.{plain_imports}
use Rattle.wl_module.proofs.imports.without_places.Given as goal

abbrev pub invariant-loop-placed : goal.invariant-loop-placed
invariant-loop-placed l = l.imports.items ≡ plain_imports l.yielded
