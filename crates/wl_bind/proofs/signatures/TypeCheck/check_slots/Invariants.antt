use Rattle.std.proofs.Common.{◌≡◌, ℕ, ◌<◌, false}
use Rattle.wl_bind.specs.Signatures.{OnKeptSlot}
use Rattle.wl_bind.specs.BindingSteps.{is_mismatch}
use Rattle.wl_bind.proofs.signatures.TypeCheck.check_slots.Given as goal

abbrev pub invariant-loop-i : goal.invariant-loop-i
invariant-loop-i l =
    (k : ℕ) → k < l.i → OnKeptSlot l.self.input.now l.object k → is_mismatch l.self.input.now l.object k ≡ false
