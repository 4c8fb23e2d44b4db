use Rattle.std.proofs.Common.{flat_map, take}
use Rattle.wl_plan.specs.steps.Globals.{AddsPart, named_part}
use Rattle.wl_plan.proofs.globals.push_named.Given as goal

abbrev pub invariant-loop-named : goal.invariant-loop-named
invariant-loop-named l =
    AddsPart l.sources
    (flat_map (named_part l.sources.book.now.input.now) (take l.named-index l.names))
    l.fn.globals.items l.globals.items
