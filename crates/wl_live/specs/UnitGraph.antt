-- Which units refer to which, and which are kept by themselves, by the numbers of units.
use Rattle.std.specs.Prelude.{◌≡◌, ℕ, ◌<◌, ◌↔◌, true, List, All, Contains}
use Rattle.wl_reach.specs.declared.graph.Edge.{Edge}
use Rattle.wl_symbols.specs.Link.{Link}
use Rattle.wl_symbols.specs.Units.{units_of, exists, unit_number, total_of}
use Rattle.wl_symbols.specs.References.{Refers}
use Rattle.wl_symbols.specs.Roots.{IsRoot}
use Rattle.wl_symbols.specs.declared.units.LinkUnit.{LinkUnit}
use Rattle.wl_symbols.specs.declared.units.UnitCounts.{UnitCounts}

-- edges between numbers of units, and numbers of units
pub record Graph : Type 0 where
  pub edges : List Edge
  pub roots : List ℕ

-- the edge from the number of one unit to that of another
abbrev pub edge_between : List UnitCounts → LinkUnit → LinkUnit → Edge
edge_between ns u v = record { from = unit_number ns u; to = unit_number ns v }

-- an edge leads from one unit to another exactly where the first refers to the second, the roots
-- are exactly the units that are kept by themselves, and all these numbers are those of units
pub record IsGraphOf (link : Link) (graph : Graph) : Type 0 where
  pub edges : (u v : LinkUnit) → exists (units_of link.objects) u ≡ true
      → exists (units_of link.objects) v ≡ true
      → Contains graph.edges (edge_between (units_of link.objects) u v) ↔ Refers link u v
  pub roots : (u : LinkUnit) → exists (units_of link.objects) u ≡ true
      → Contains graph.roots (unit_number (units_of link.objects) u) ↔ IsRoot link u
  pub from : All (λ e. e.from < total_of (units_of link.objects)) graph.edges
  pub to : All (λ e. e.to < total_of (units_of link.objects)) graph.edges
  pub begin : All (λ n. n < total_of (units_of link.objects)) graph.roots
