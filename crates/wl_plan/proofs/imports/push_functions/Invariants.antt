use Rattle.std.proofs.Common.{take}
use Rattle.wl_bind.specs.OutputTypes.{output_types}
use Rattle.wl_bind.specs.Shared.{function_imports}
use Rattle.wl_plan.specs.steps.Imports.{AddsImports}
use Rattle.wl_plan.specs.Imports.{IsFunctionImport}
use Rattle.wl_plan.proofs.imports.push_functions.Given as goal

abbrev pub invariant-loop-host : goal.invariant-loop-host
invariant-loop-host l =
    AddsImports (IsFunctionImport l.input (output_types l.input)) (take l.host-index (function_imports l.input))
    l.initial.imports.items l.imports.items
