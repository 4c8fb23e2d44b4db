use Rattle.std.proofs.Common.{◌≡◌, ◌++◌, drop, filter_map}
use Rattle.wl_module.specs.Imports.{Imported}
use Rattle.wl_plan.specs.Imports.{global_type_in}
use Rattle.wl_plan.specs.steps.Imports.{global_types_in}
use Rattle.wl_plan.proofs.imports.object_types.Given as goal

abbrev pub invariant-loop-import : goal.invariant-loop-import
invariant-loop-import l =
    l.types.items ++ filter_map (λ (i : Imported). global_type_in i.entity) (drop l.import-index l.import-items)
    ≡ global_types_in l.file
