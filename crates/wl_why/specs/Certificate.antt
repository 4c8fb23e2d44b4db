-- Why units are kept, as a list of steps, and when such a list is valid.
use Rattle.std.specs.Prelude.{◌≡◌, ℕ, ◌<◌, true, false, List, Option, Some, None, slice_get, option_map}
use Rattle.wl_symbols.specs.Link.{Link}
use Rattle.wl_symbols.specs.Units.{units_of, exists}
use Rattle.wl_symbols.specs.References.{Refers}
use Rattle.wl_symbols.specs.Roots.{IsRoot}
use Rattle.wl_symbols.specs.declared.units.LinkUnit.{LinkUnit}
use Rattle.wl_why.specs.declared.certificate.Step.{Step}

-- the unit of a step
abbrev pub step_unit : Step → LinkUnit
step_unit s = record { object = s.object; unit = s.unit }

-- the unit of the step at that place, if there is one
abbrev pub unit_at_place : List Step → ℕ → Option LinkUnit
unit_at_place steps place = option_map step_unit (slice_get steps place)

-- the unit has a step
abbrev pub IsListed : List Step → LinkUnit → Type 0
IsListed steps u = (place : ℕ) × (unit_at_place steps place ≡ Some u)

-- the step at the place `from`, which is before the other place, is of a unit that refers to u
pub record ComesFrom (link : Link) (steps : List Step) (from place : ℕ) (u : LinkUnit)
    : Type 0 where
  pub before : from < place
  pub unit : LinkUnit
  pub at : unit_at_place steps from ≡ Some unit
  pub refers : Refers link unit u

-- the steps are a valid certificate of what is kept
pub record IsValid (link : Link) (steps : List Step) : Type 0 where
  -- each step is of a unit that exists
  pub exist : (place : ℕ) (u : LinkUnit) → unit_at_place steps place ≡ Some u
      → exists (units_of link.objects) u ≡ true
  -- no unit has two steps
  pub once : (j k : ℕ) (u : LinkUnit) → unit_at_place steps j ≡ Some u
      → unit_at_place steps k ≡ Some u → j ≡ k
  -- where units are collected, a step that comes from none is of a root
  pub root : link.args.gc_sections ≡ true → (place : ℕ) (s : Step)
      → slice_get steps place ≡ Some s → s.from ≡ None → IsRoot link (step_unit s)
  -- one that comes from another follows it, and that one's unit refers to its unit
  pub from : link.args.gc_sections ≡ true → (place from : ℕ) (s : Step)
      → slice_get steps place ≡ Some s → s.from ≡ Some from
      → ComesFrom link steps from place (step_unit s)
  -- each root is listed
  pub roots : link.args.gc_sections ≡ true → (u : LinkUnit) → IsRoot link u → IsListed steps u
  -- what a listed unit refers to is listed
  pub closed : link.args.gc_sections ≡ true → (u v : LinkUnit) → IsListed steps u
      → Refers link u v → IsListed steps v
  -- where nothing is left out, no step comes from another
  pub off : link.args.gc_sections ≡ false → (place : ℕ) (s : Step)
      → slice_get steps place ≡ Some s → s.from ≡ None
  -- and each unit is listed
  pub all : link.args.gc_sections ≡ false → (u : LinkUnit)
      → exists (units_of link.objects) u ≡ true → IsListed steps u
