use Rattle.std.proofs.Common.{◌≡◌, ℕ, ◌<◌, Some, slice_get, IfSome}
use Rattle.wl_reach.specs.Marks.{IsMarked}
use Rattle.wl_why.specs.declared.certificate.Step.{Step}
use Rattle.wl_why.proofs.checking.are_justified.Given as goal

abbrev pub invariant-loop-i : goal.invariant-loop-i
invariant-loop-i l = (place : ℕ) (s : Step) → place < l.i → slice_get l.steps place ≡ Some s → IsMarked l.marks place × IfSome s.from (λ j. j < place)
