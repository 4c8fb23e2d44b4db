use Rattle.std.proofs.Common.{◌≤◌, length}
use Rattle.wl_plan.proofs.GlobalParts.{KeptUpTo}
use Rattle.wl_plan.proofs.globals.push_globals.Given as goal

abbrev pub invariant-loop-number : goal.invariant-loop-number
invariant-loop-number l =
    (l.number ≤ length l.file.globals)
    × KeptUpTo l.sources l.object l.number l.fn.globals.items l.globals.items
