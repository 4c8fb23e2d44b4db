use Rattle.std.proofs.Common.{◌≡◌, ◌++◌, drop, map}
use Rattle.wl_plan.specs.steps.Imports.{global_types_in}
use Rattle.wl_plan.proofs.imports.global_types.Given as goal

abbrev pub invariant-loop-file : goal.invariant-loop-file
invariant-loop-file l =
    l.types.items ++ map global_types_in (drop l.file-index l.file-items) ≡ map global_types_in l.files
