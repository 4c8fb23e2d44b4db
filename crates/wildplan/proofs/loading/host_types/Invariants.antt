use Rattle.std.proofs.Common.{◌≡◌, ◌++◌, drop}
use Rattle.wildplan.specs.Loading.{host_types}
use Rattle.wildplan.proofs.loading.host_types.Given as goal

abbrev pub invariant-loop-import : goal.invariant-loop-import
invariant-loop-import l =
    l.types.items ++ host_types (drop l.import-index l.imports) ≡ host_types l.imports
