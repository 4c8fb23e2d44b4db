use Rattle.std.proofs.Common.{◌≡◌, find}
use Rattle.wl_symbols.specs.KeptRelocations.{relocations_left}
use Rattle.wl_symbols.specs.Relocations.{relocations}
use Rattle.wl_plan.specs.steps.Globals.{asks_for_entry}
use Rattle.wl_plan.proofs.global_starts.first_asking.Given as goal

abbrev pub invariant-loop-relocated : goal.invariant-loop-relocated
invariant-loop-relocated l =
    find (asks_for_entry l.input l.definition) (relocations_left l.relocated-iterator)
    ≡ find (asks_for_entry l.input l.definition) (relocations l.input)
