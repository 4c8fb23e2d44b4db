use Rattle.std.proofs.Common.{◌≡◌, ◌++◌}
use Rattle.wl_types.proofs.types.TypeMerger.into_types.Given as goal

abbrev pub invariant-loop-ty : goal.invariant-loop-ty
invariant-loop-ty l = l.list.items ++ l.ty-iterator ≡ l.fn.self
