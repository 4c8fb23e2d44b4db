use Rattle.std.proofs.Common.{◌≡◌, ◌++◌}
use Rattle.std.specs.List.{AllZip}
use Rattle.wl_symbols.specs.KeptRelocations.{relocations_left}
use Rattle.wl_symbols.specs.Relocations.{relocations}
use Rattle.wl_plan.specs.steps.Fixups.{NoneRefused}
use Rattle.wl_plan.specs.Fixups.{IsFixup}
use Rattle.wl_plan.specs.steps.Positions.{AreMoved}
use Rattle.wl_plan.proofs.fixups.all_fixups.Given as goal

abbrev pub invariant-loop-relocated : goal.invariant-loop-relocated
invariant-loop-relocated l = record {
  all : l.yielded ++ relocations_left l.relocated-iterator ≡ relocations l.sources.book.now.input.now;
  so_far : AllZip (IsFixup l.sources.book.now.input.now l.sources.book.now.placing.now) l.yielded l.fixups.items;
  clear : NoneRefused l.sources l.yielded;
  moved : AreMoved l.sources.book.now.input.now l.sources.book.now.placing.now (relocations_left l.relocated-iterator) l.moved;
}
