use Rattle.std.proofs.Common.{◌≡◌, map, take}
use Rattle.wl_plan.proofs.PositionLaws.{position_of}
use Rattle.wl_plan.proofs.positions.set_positions.Given as goal

abbrev pub invariant-loop-relocated : goal.invariant-loop-relocated
invariant-loop-relocated l =
    l.fields.items ≡ map position_of (take l.relocated-index l.run)
