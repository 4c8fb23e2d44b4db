use Rattle.std.proofs.Common.{take}
use Rattle.wl_bind.specs.GotSteps.{ArePlaces}
use Rattle.wl_bind.proofs.got.name_places.Given as goal

abbrev pub invariant-loop-place : goal.invariant-loop-place
invariant-loop-place g l = ArePlaces l.places (take l.place l.entries.entries)
