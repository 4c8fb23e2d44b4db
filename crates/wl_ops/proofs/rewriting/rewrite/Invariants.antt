use Rattle.std.proofs.Common.{◌≡◌, ◌+◌, List, ℕ, ◌++◌, drop, length}
use Rattle.wl_ops.specs.declared.rewriting.Shift.{Shift}
use Rattle.wl_ops.specs.Rewriting.{new_index, Rewrites, LieWithin, AreShifts}
use Rattle.wl_ops.proofs.rewriting.rewrite.Given as goal

abbrev pub invariant-loop-number : goal.invariant-loop-number
invariant-loop-number l =
    ((y : List ℕ) → Rewrites (new_index l.indices) l.place (drop l.number-index l.numbers) l.rest y → Rewrites (new_index l.indices) 0 l.numbers l.body (l.bytes.items ++ y))
    × ((ss : List Shift) → AreShifts (new_index l.indices) l.place (length l.bytes.items) (drop l.number-index l.numbers) ss → AreShifts (new_index l.indices) 0 0 l.numbers (l.shifts.items ++ ss))
    × LieWithin l.place (drop l.number-index l.numbers) (length l.body) × (l.place + length l.rest ≡ length l.body)
