use Rattle.std.proofs.Common.{◌≡◌, [], ◌∷◌, None}
use Rattle.std.specs.List.{repeat}
use Rattle.wl_linking.proofs.slots.no_names.Given as goal

abbrev pub invariant-loop : goal.invariant-loop
invariant-loop l = l.names.items ≡ repeat l.counter (None ∷ [])
