use Rattle.std.proofs.Common.{◌≡◌, ◌++◌, ℕ, List, take}
use Rattle.wildplan.specs.Map.{AreCodeLines}
use Rattle.wildplan.proofs.map.push_functions.Given as goal

abbrev pub invariant-loop-i : goal.invariant-loop-i
invariant-loop-i l = (text : List ℕ) × AreCodeLines l.first (take l.i l.bodies) text × (l.page ≡ l.fn.page ++ text)
