use Rattle.std.proofs.Common.{ℕ, Option, IfSome, ◌<◌, take}
use Rattle.std.specs.List.{AllByRecursion}
use Rattle.wl_load.proofs.parts.are_filled.Given as goal

abbrev pub invariant-loop-slot : goal.invariant-loop-slot
invariant-loop-slot l = AllByRecursion (λ (slot : Option ℕ). IfSome slot (λ f. f < l.functions)) (take l.slot-index l.table)
