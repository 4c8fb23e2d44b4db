use Rattle.std.proofs.Common.{◌≡◌, ◌++◌, take, drop, map, ℕ}
use Rattle.wl_ops.specs.Rewriting.{shifted}
use Rattle.wl_ops.proofs.rewriting.move_fields.Given as goal

abbrev pub invariant-loop-i : goal.invariant-loop-i
invariant-loop-i l = l.fields ≡ map (λ (p : ℕ). shifted l.shifts p p) (take l.i l.initial.fields) ++ drop l.i l.initial.fields
