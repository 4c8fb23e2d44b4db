-- The edges of the table are the references, and its roots are the roots.
use Rattle.std.proofs.Common.{◌≡◌, ◌↔◌, true, List, subst, Contains}
use Rattle.wl_symbols.specs.Link.{Link}
use Rattle.wl_symbols.specs.Units.{units_of, exists, unit_number, unit_number_if}
use Rattle.wl_symbols.specs.References.{Refers}
use Rattle.wl_symbols.specs.Roots.{IsRoot}
use Rattle.wl_live.specs.Facts.{Facts, AreAllFacts}
use Rattle.wl_live.specs.Table.{Reference, found, edge_of, references, roots}
use Rattle.wl_live.specs.UnitGraph.{Graph, edge_between, IsGraphOf}
use Rattle.wl_symbols.specs.declared.units.LinkUnit.{LinkUnit}
use Rattle.wl_symbols.specs.declared.units.UnitCounts.{UnitCounts}
use Rattle.wl_symbols.proofs.NumberingLaws.{number_if_found, number_if_parts, unit_number-injective}
use Rattle.wl_symbols.proofs.KeptLaws.{OneNumbers}
use Rattle.wl_live.proofs.ReachLaws.{Contains-found, Contains-found_from, edge_of-from, edge_of-is, numbers-lt, edges_from-lt, edges_to-lt}
use Rattle.wl_live.proofs.RootLaws.{in_roots, roots_in}
use Rattle.wl_live.proofs.ReferenceLaws.{refers_to, in_references, references_in}

pub edges_refer : OneNumbers → (link : Link) (facts : List Facts) → AreAllFacts link.objects facts → (u v : LinkUnit) → exists (units_of link.objects) u ≡ true → exists (units_of link.objects) v ≡ true → Contains (found (edge_of (units_of link.objects)) (references link (units_of link.objects) facts)) (edge_between (units_of link.objects) u v) ↔ Refers link u v
edges_refer only link facts all u v hu hv =
    let ns : List UnitCounts = units_of link.objects in
    let refs : List Reference = references link ns facts in (
      λ m.
          let q = Contains-found_from (edge_of ns) refs (edge_between ns u v) m in
          let parts = edge_of-from ns q.0 (edge_between ns u v) q.2 in
          let from = number_if_parts ns q.0.from (unit_number ns u) parts.0 in
          let to = number_if_parts ns q.0.to (unit_number ns v) parts.1 in
          let left : q.0.from ≡ u = unit_number-injective ns q.0.from u from.0 hu from.1 in
          let right : q.0.to ≡ v = unit_number-injective ns q.0.to v to.0 hv to.1 in
          let first : Contains refs (refers_to u q.0.to) = subst (λ (w : LinkUnit). Contains refs (refers_to w q.0.to)) left q.1 in
          let listed : Contains refs (refers_to u v) = subst (λ (w : LinkUnit). Contains refs (refers_to u w)) right first in
          record { from = hu; to = hv; how = in_references link facts u v all listed },
      λ r. Contains-found (edge_of ns) refs (refers_to u v) (edge_between ns u v) (references_in only link facts u v all r.how) (edge_of-is ns u v hu hv),
    )

pub numbers_are_roots : (link : Link) (u : LinkUnit) → exists (units_of link.objects) u ≡ true → Contains (found (unit_number_if (units_of link.objects)) (roots link (units_of link.objects))) (unit_number (units_of link.objects) u) ↔ IsRoot link u
numbers_are_roots link u hu =
    let ns : List UnitCounts = units_of link.objects in (
      λ m.
          let q = Contains-found_from (unit_number_if ns) (roots link ns) (unit_number ns u) m in
          let p = number_if_parts ns q.0 (unit_number ns u) q.2 in
          let same : q.0 ≡ u = unit_number-injective ns q.0 u p.0 hu p.1 in
          subst (λ (w : LinkUnit). IsRoot link w) same (in_roots link q.0 q.1),
      λ r. Contains-found (unit_number_if ns) (roots link ns) u (unit_number ns u) (roots_in link u r) (number_if_found ns u hu),
    )

pub graph_is : OneNumbers → (link : Link) (ns : List UnitCounts) (facts : List Facts) (graph : Graph) → ns ≡ units_of link.objects → AreAllFacts link.objects facts → graph.edges ≡ found (edge_of ns) (references link ns facts) → graph.roots ≡ found (unit_number_if ns) (roots link ns) → IsGraphOf link graph
graph_is only link ns facts graph units all edges begins =
    let us : List UnitCounts = units_of link.objects in
    let es : graph.edges ≡ found (edge_of us) (references link us facts) = subst (λ (n : List UnitCounts). graph.edges ≡ found (edge_of n) (references link n facts)) units edges in
    let rs : graph.roots ≡ found (unit_number_if us) (roots link us) = subst (λ (n : List UnitCounts). graph.roots ≡ found (unit_number_if n) (roots link n)) units begins in
    record {
      edges = λ u v hu hv. rw es (edges_refer only link facts all u v hu hv);
      roots = λ u hu. rw rs (numbers_are_roots link u hu);
      from = rw es (edges_from-lt us (references link us facts));
      to = rw es (edges_to-lt us (references link us facts));
      begin = rw rs (numbers-lt us (roots link us));
    }
