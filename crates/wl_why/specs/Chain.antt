-- Why one unit is kept.
use Rattle.std.specs.Prelude.{◌≡◌, ℕ, ◌≤◌, true, false, nat_lt, if◌then◌else◌, List, [], ◌∷◌, length, Option, Some, None}
use Rattle.wl_reach.specs.Search.{IsChain}
use Rattle.wl_symbols.specs.Link.{Link}
use Rattle.wl_symbols.specs.References.{Refers}
use Rattle.wl_symbols.specs.Roots.{IsRoot}
use Rattle.wl_symbols.specs.declared.units.LinkUnit.{LinkUnit}
use Rattle.wl_why.specs.BreadthFirst.{IsBreadthFirst}
use Rattle.wl_why.specs.Certificate.{IsValid}
use Rattle.wl_why.specs.declared.certificate.Step.{Step}

-- wherever the certificate is valid: the chain leads from a root to the unit, and each of its
-- members refers to the next; where nothing is left out it is the unit alone
pub record Explains (steps : List Step) (u : LinkUnit) (chain : List LinkUnit) : Type 0 where
  pub on : (link : Link) → IsValid link steps → link.args.gc_sections ≡ true
      → IsChain (IsRoot link) (Refers link) chain u
  pub off : (link : Link) → IsValid link steps → link.args.gc_sections ≡ false → chain ≡ u ∷ []

-- wherever the certificate is valid and goes breadth first, no chain that leads from a root to the
-- unit is shorter
abbrev pub IsShortest : List Step → LinkUnit → List LinkUnit → Type 0
IsShortest steps u chain =
    (link : Link) → IsValid link steps → link.args.gc_sections ≡ true → IsBreadthFirst link steps
    → (other : List LinkUnit) → IsChain (IsRoot link) (Refers link) other u
    → length chain ≤ length other

-- the place that a step comes from, if that is before its own
abbrev pub earlier_place : Option ℕ → ℕ → Option ℕ
earlier_place None place = None
earlier_place (Some from) place = if nat_lt from place then Some from else None
