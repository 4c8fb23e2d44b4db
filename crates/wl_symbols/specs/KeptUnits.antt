-- What is known of the unit of a field.
use Rattle.std.specs.Prelude.{◌≡◌, ℕ, Option}
use Rattle.std.specs.Option.{ForSome}
use Rattle.wl_symbols.specs.Live.{Live}
use Rattle.wl_symbols.specs.Relocations.{keeps_unit}
use Rattle.wl_symbols.specs.declared.kept_units.KeptUnit.{KeptUnit}
use Rattle.wl_symbols.specs.declared.relocated.FixupPlace.{FixupPlace}

-- what is known of a unit of object i is so
abbrev pub Knows : Live → FixupPlace → ℕ → Option KeptUnit → Type 0
Knows live place i known = ForSome known (λ k. k.kept ≡ keeps_unit live place i k.unit)
