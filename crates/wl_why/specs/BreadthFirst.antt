-- Steps in the order in which a search finds their units that goes breadth first.
use Rattle.std.specs.Prelude.{◌≡◌, ℕ, ◌<◌, ◌≤◌, List, Some, None, slice_get}
use Rattle.wl_symbols.specs.Link.{Link}
use Rattle.wl_symbols.specs.References.{Refers}
use Rattle.wl_symbols.specs.Roots.{IsRoot}
use Rattle.wl_symbols.specs.declared.units.LinkUnit.{LinkUnit}
use Rattle.wl_why.specs.Certificate.{step_unit, unit_at_place}
use Rattle.wl_why.specs.declared.certificate.Step.{Step}

-- the steps are those of a search that goes breadth first
pub record IsBreadthFirst (link : Link) (steps : List Step) : Type 0 where
  -- the step of a root comes from none
  pub root : (place : ℕ) (s : Step) → slice_get steps place ≡ Some s → IsRoot link (step_unit s)
      → s.from ≡ None
  -- any other comes from the first whose unit refers to its unit
  pub first : (place from other : ℕ) (s : Step) (u : LinkUnit) → slice_get steps place ≡ Some s
      → s.from ≡ Some from → unit_at_place steps other ≡ Some u → Refers link u (step_unit s)
      → from ≤ other
  -- steps that come from none stand first
  pub ahead : (j k : ℕ) (s t : Step) → j < k → slice_get steps j ≡ Some s
      → slice_get steps k ≡ Some t → t.from ≡ None → s.from ≡ None
  -- the others stand in the order of those from which they come
  pub order : (j k a b : ℕ) (s t : Step) → j < k → slice_get steps j ≡ Some s
      → slice_get steps k ≡ Some t → s.from ≡ Some a → t.from ≡ Some b → a ≤ b
