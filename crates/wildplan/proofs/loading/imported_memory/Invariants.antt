use Rattle.std.proofs.Common.{◌≡◌, drop}
use Rattle.wildplan.specs.Loading.{imported_memory}
use Rattle.wildplan.proofs.loading.imported_memory.Given as goal

abbrev pub invariant-loop-import : goal.invariant-loop-import
invariant-loop-import l = imported_memory (drop l.import-index l.imports) ≡ imported_memory l.imports
