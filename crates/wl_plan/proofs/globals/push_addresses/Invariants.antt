use Rattle.std.proofs.Common.{map, take}
use Rattle.wl_bind.specs.GlobalSpace.{AddressOf}
use Rattle.wl_plan.specs.steps.Globals.{AddsPart}
use Rattle.wl_plan.proofs.globals.push_addresses.Given as goal

abbrev pub invariant-loop-made : goal.invariant-loop-made
invariant-loop-made l =
    AddsPart l.sources (map AddressOf (take l.made-index l.addresses))
    l.fn.globals.items l.globals.items
