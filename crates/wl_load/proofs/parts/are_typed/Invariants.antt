use Rattle.std.proofs.Common.{◌<◌, take}
use Rattle.std.specs.List.{AllByRecursion}
use Rattle.wl_load.specs.declared.parts.ImageFunction.{ImageFunction}
use Rattle.wl_load.proofs.parts.are_typed.Given as goal

abbrev pub invariant-loop-function : goal.invariant-loop-function
invariant-loop-function l = AllByRecursion (λ (f : ImageFunction). f.type_index < l.types) (take l.function-index l.functions)
