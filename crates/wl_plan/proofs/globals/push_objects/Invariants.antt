use Rattle.std.proofs.Common.{take}
use Rattle.wl_bind.specs.GlobalSpace.{globals_of}
use Rattle.wl_bind.specs.Parts.{by_object}
use Rattle.wl_plan.specs.steps.Globals.{AddsPart}
use Rattle.wl_plan.proofs.globals.push_objects.Given as goal

abbrev pub invariant-loop-object : goal.invariant-loop-object
invariant-loop-object l =
    AddsPart l.sources
    (by_object (globals_of l.sources.book.now.input.now) 0
    (take l.object l.sources.book.now.input.now.link.objects)) l.fn.globals.items l.globals.items
