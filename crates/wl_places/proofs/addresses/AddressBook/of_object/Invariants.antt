use Rattle.std.proofs.Common.{ℕ, ◌≡◌, ◌<◌, map}
use Rattle.std.specs.List.{range_with_len}
use Rattle.wl_places.specs.Addresses.{symbol_address, IsHigh}
use Rattle.wl_places.proofs.addresses.AddressBook.of_object.Given as goal

abbrev pub invariant-loop-number : goal.invariant-loop-number
invariant-loop-number l =
    (l.addresses.items
    ≡ map (symbol_address l.self.input.now l.self.placing.now l.object) (range_with_len 0 l.number))
    × ((number : ℕ) → number < l.number
    → IsHigh (symbol_address l.self.input.now l.self.placing.now l.object number) → ⊥)
