use Rattle.std.proofs.Common.{map, take}
use Rattle.wl_bind.specs.GlobalSpace.{DataOf}
use Rattle.wl_plan.specs.steps.Globals.{AddsPart}
use Rattle.wl_plan.proofs.globals.push_data.Given as goal

abbrev pub invariant-loop-datum : goal.invariant-loop-datum
invariant-loop-datum l =
    AddsPart l.sources (map DataOf (take l.datum-index l.exported))
    l.fn.globals.items l.globals.items
