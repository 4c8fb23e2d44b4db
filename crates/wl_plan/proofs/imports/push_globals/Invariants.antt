use Rattle.std.proofs.Common.{take}
use Rattle.wl_bind.specs.Shared.{global_imports}
use Rattle.wl_plan.specs.steps.Imports.{AddsImports}
use Rattle.wl_plan.specs.Imports.{IsGlobalImport}
use Rattle.wl_plan.proofs.imports.push_globals.Given as goal

abbrev pub invariant-loop-host : goal.invariant-loop-host
invariant-loop-host l =
    AddsImports (IsGlobalImport l.input) (take l.host-index (global_imports l.input))
    l.initial.imports.items l.imports.items
