use Rattle.std.proofs.Common.{◌≡◌, ◌++◌, drop}
use Rattle.wl_why.specs.Text.{drop_lines}
use Rattle.wl_why.proofs.text.push_drops.Given as goal

abbrev pub invariant-loop-number : goal.invariant-loop-number
invariant-loop-number l = l.page ++ drop_lines (drop l.number l.units) (drop l.number l.marks) ≡ l.fn.page ++ drop_lines l.units l.marks
