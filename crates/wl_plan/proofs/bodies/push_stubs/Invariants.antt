use Rattle.std.proofs.Common.{◌≤◌, ◌-◌, length, map, take}
use Rattle.wl_bind.specs.FunctionBinding.{link_stubs}
use Rattle.wl_symbols.specs.Input.{Input}
use Rattle.wl_places.specs.declared.placing.Placing.{Placing}
use Rattle.wl_plan.specs.steps.Bindings.{AreBindings}
use Rattle.wl_plan.specs.BodySteps.{AddsBodies}
use Rattle.wl_plan.proofs.GrowLaws.{stub_entry}
use Rattle.wl_plan.proofs.bodies.push_stubs.Given as goal

abbrev pub invariant-loop-made : goal.invariant-loop-made
invariant-loop-made l =
    (l.made ≤ length l.types)
    × ((input : Input) (g : Placing) → AreBindings input l.bindings
    → AddsBodies input g (map stub_entry (take l.made (link_stubs input))) l.initial.bodies.items
    l.bodies.items)

abbrev pub decreases-loop-made : goal.decreases-loop-made
decreases-loop-made l = length l.types - l.made
