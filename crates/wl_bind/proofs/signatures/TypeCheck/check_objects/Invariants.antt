use Rattle.std.proofs.Common.{ℕ, ◌<◌}
use Rattle.wl_bind.specs.BindingSteps.{AreOwnClear}
use Rattle.wl_bind.proofs.signatures.TypeCheck.check_objects.Given as goal

abbrev pub invariant-loop-object : goal.invariant-loop-object
invariant-loop-object l = (j : ℕ) → j < l.object → AreOwnClear l.self.input.now j
