-- Where units have their steps in a certificate, by the numbers of the units.
use Rattle.std.specs.Prelude.{◌≡◌, ℕ, ◌<◌, true, List, length, Some, slice_index}
use Rattle.wl_symbols.specs.Units.{exists, unit_number, total_of}
use Rattle.wl_symbols.specs.declared.units.LinkUnit.{LinkUnit}
use Rattle.wl_symbols.specs.declared.units.UnitCounts.{UnitCounts}
use Rattle.wl_why.specs.Certificate.{unit_at_place}
use Rattle.wl_why.specs.declared.certificate.Step.{Step}

-- each step is of a unit that exists, and no unit has two
pub record AreUnits (ns : List UnitCounts) (steps : List Step) : Type 0 where
  pub exist : (place : ℕ) (u : LinkUnit) → unit_at_place steps place ≡ Some u
      → exists ns u ≡ true
  pub once : (j k : ℕ) (u : LinkUnit) → unit_at_place steps j ≡ Some u
      → unit_at_place steps k ≡ Some u → j ≡ k

-- the unit of that number has its step at that place, which is one of the first ones
pub record HasPlace (ns : List UnitCounts) (steps : List Step) (count place n : ℕ) : Type 0 where
  pub below : place < count
  pub unit : LinkUnit
  pub at : unit_at_place steps place ≡ Some unit
  pub number : unit_number ns unit ≡ n

-- of the first steps each has a unit that exists, at whose number stands its place; at the number
-- of any other unit stands no place of a step
pub record ArePlacesTo (ns : List UnitCounts) (steps : List Step) (count : ℕ) (places : List ℕ)
    : Type 0 where
  pub size : length places ≡ total_of ns
  pub exist : (place : ℕ) (u : LinkUnit) → place < count → unit_at_place steps place ≡ Some u
      → exists ns u ≡ true
  pub at : (place : ℕ) (u : LinkUnit) → place < count → unit_at_place steps place ≡ Some u
      → slice_index places (unit_number ns u) ≡ place
  pub only : (n : ℕ) → n < total_of ns → slice_index places n < length steps
      → HasPlace ns steps count (slice_index places n) n

-- the same of all steps
abbrev pub ArePlaces : List UnitCounts → List Step → List ℕ → Type 0
ArePlaces ns steps places = ArePlacesTo ns steps (length steps) places
