use Rattle.std.proofs.Common.{ℕ, ◌<◌, take}
use Rattle.std.specs.List.{AllByRecursion}
use Rattle.wl_load.proofs.parts.have_types.Given as goal

abbrev pub invariant-loop-ty : goal.invariant-loop-ty
invariant-loop-ty l = AllByRecursion (λ (t : ℕ). t < l.types) (take l.ty-index l.hosts)
