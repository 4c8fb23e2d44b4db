use Rattle.std.proofs.Common.{◌≡◌, ◌+◌, take}
use Rattle.wl_exports.specs.steps.DataPlaces.{NotesPlaces}
use Rattle.wl_exports.proofs.data_places.note_places.Given as goal

abbrev pub invariant-loop-symbol : goal.invariant-loop-symbol
invariant-loop-symbol l = record {
  number : l.index ≡ l.first + l.symbol-index;
  noted : NotesPlaces (take l.symbol-index l.symbols) l.first l.initial.places l.places;
}
