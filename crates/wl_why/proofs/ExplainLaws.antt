-- The steps that are made are a valid certificate.
use Rattle.std.proofs.Common.{◌≡◌, ℕ, ◌+◌, ◌<◌, true, false, List, [], ◌∷◌, ◌++◌, length, map, take, get_or, ap, sym, ◌∙◌, subst, Some, None, Contains, slice_get}
use Rattle.std.proofs.lemmas.Bool.{true≢false}
use Rattle.std.proofs.lemmas.List.{take_more}
use Rattle.wl_lists.proofs.Beside.{zip_joined, zip_left, zip_right}
use Rattle.wl_lists.proofs.Places.{came_at, mapped_at}
use Rattle.wl_reach.specs.Graph.{HasEdge, HasEdges}
use Rattle.wl_symbols.specs.Link.{Link}
use Rattle.wl_symbols.specs.Units.{units_of, exists, unit_number}
use Rattle.wl_symbols.specs.Roots.{IsRoot}
use Rattle.wl_live.specs.UnitGraph.{Graph, edge_between, IsGraphOf}
use Rattle.wl_symbols.specs.declared.units.LinkUnit.{LinkUnit}
use Rattle.wl_symbols.specs.declared.units.UnitCounts.{UnitCounts}
use Rattle.wl_why.specs.Certificate.{step_unit, unit_at_place, IsListed, ComesFrom, IsValid}
use Rattle.wl_why.specs.BreadthFirst.{IsBreadthFirst}
use Rattle.wl_why.specs.Explaining.{plain_step, IsVisitStep, AreVisitSteps}
use Rattle.wl_why.specs.Units.{all_units}
use Rattle.wl_why.specs.Walk.{node_at, IsVisited, IsWalk, IsInOrder}
use Rattle.wl_why.specs.declared.certificate.Step.{Step}
use Rattle.wl_why.specs.declared.walk.Visit.{Visit}
use Rattle.wl_why.proofs.Numbering.{Numbering, unit_here, step_here}
use Rattle.wl_why.proofs.UnitLaws.{HasNumber, all_at, at_all}
use Rattle.wl_why.proofs.WalkLaws.{visit_at, node_here, none_some}

-- ---- where nothing is left out

pub plain_here : (units : List LinkUnit) (place : ℕ) (u : LinkUnit) → slice_get units place ≡ Some u → unit_at_place (map plain_step units) place ≡ Some u
plain_here units place u at = unit_here (map plain_step units) place (plain_step u) (mapped_at plain_step units place u at)

pub plain_unit : (ns : List UnitCounts) (place : ℕ) (u : LinkUnit) → unit_at_place (map plain_step (all_units ns)) place ≡ Some u → HasNumber ns place u
plain_unit ns place u at =
    let s = step_here (map plain_step (all_units ns)) place u at in
    let p = came_at plain_step (all_units ns) place s.0 s.1 in
    let same : p.0 ≡ u = ap step_unit p.2 ∙ s.2 in
    subst (HasNumber ns place) same (all_at ns place p.0 p.1)

pub plain_valid : Numbering → (link : Link) (steps : List Step) → link.args.gc_sections ≡ false → steps ≡ map plain_step (all_units (units_of link.objects)) → IsValid link steps
plain_valid numbering link steps off is =
    let ns : List UnitCounts = units_of link.objects in
    rw is
    (record {
      exist = λ place u at. (plain_unit ns place u at).there;
      once = λ j k u a b. sym (plain_unit ns j u a).number ∙ (plain_unit ns k u b).number;
      root = λ on. absurd (true≢false (sym on ∙ off));
      from = λ on. absurd (true≢false (sym on ∙ off));
      roots = λ on. absurd (true≢false (sym on ∙ off));
      closed = λ on. absurd (true≢false (sym on ∙ off));
      off = λ is place s at. let p = came_at plain_step (all_units ns) place s at in ap (λ (t : Step). t.from) (sym p.2);
      all = λ is u there. (unit_number ns u, plain_here (all_units ns) (unit_number ns u) u (at_all numbering ns u there));
    })

-- ---- where units are collected

-- one visit more
pub zip_more : (units : List LinkUnit) (visits : List Visit) (steps : List Step) (i : ℕ) (d : Visit) (s : Step) → i < length visits → AreVisitSteps units (take i visits) steps → IsVisitStep units (get_or visits i d) s → AreVisitSteps units (take (i + 1) visits) (steps ++ s ∷ [])
zip_more units visits steps i d s lt zip one = rw (take_more visits i d lt) (zip_joined (IsVisitStep units) (take i visits) (get_or visits i d ∷ []) steps (s ∷ []) zip (one, tt))

-- the visit of a step, and the number of its unit
pub record Visited (ns : List UnitCounts) (visits : List Visit) (place : ℕ) (s : Step) : Type 0 where
  pub visit : Visit
  pub at : slice_get visits place ≡ Some visit
  pub from : s.from ≡ visit.from
  pub there : exists ns (step_unit s) ≡ true
  pub number : unit_number ns (step_unit s) ≡ visit.node

pub visited_step : (ns : List UnitCounts) (visits : List Visit) (steps : List Step) (place : ℕ) (s : Step) → AreVisitSteps (all_units ns) visits steps → slice_get steps place ≡ Some s → Visited ns visits place s
visited_step ns visits steps place s zip at =
    let z = zip_left (IsVisitStep (all_units ns)) visits steps place s zip at in
    let h = all_at ns z.0.node (step_unit s) z.2.unit in
    record { visit = z.0; at = z.1; from = z.2.from; there = h.there; number = h.number }

-- the unit at a place
pub record VisitedUnit (ns : List UnitCounts) (visits : List Visit) (place : ℕ) (u : LinkUnit) : Type 0 where
  pub there : exists ns u ≡ true
  pub node : node_at visits place ≡ Some (unit_number ns u)

pub visited_unit : (ns : List UnitCounts) (visits : List Visit) (steps : List Step) (place : ℕ) (u : LinkUnit) → AreVisitSteps (all_units ns) visits steps → unit_at_place steps place ≡ Some u → VisitedUnit ns visits place u
visited_unit ns visits steps place u zip at =
    let s = step_here steps place u at in
    let v = visited_step ns visits steps place s.0 zip s.1 in
    let here : node_at visits place ≡ Some (unit_number ns (step_unit s.0)) = node_here visits place v.visit v.at ∙ ap Some (sym v.number) in
    subst (VisitedUnit ns visits place) s.2 (record { there = v.there; node = here })

-- where a node is visited stands the step of its unit
pub unit_of_node : Numbering → (ns : List UnitCounts) (visits : List Visit) (steps : List Step) (place : ℕ) (u : LinkUnit) → AreVisitSteps (all_units ns) visits steps → exists ns u ≡ true → node_at visits place ≡ Some (unit_number ns u) → unit_at_place steps place ≡ Some u
unit_of_node numbering ns visits steps place u zip there at =
    let v = visit_at visits place (unit_number ns u) at in
    let z = zip_right (IsVisitStep (all_units ns)) visits steps place v.0 zip v.1 in
    let h = all_at ns v.0.node (step_unit z.0) z.2.unit in
    let same : step_unit z.0 ≡ u = numbering.own ns (step_unit z.0) u h.there there (h.number ∙ v.2) in
    unit_here steps place z.0 z.1 ∙ ap Some same

pub listed_node : Numbering → (ns : List UnitCounts) (visits : List Visit) (steps : List Step) (u : LinkUnit) → AreVisitSteps (all_units ns) visits steps → exists ns u ≡ true → IsVisited visits (unit_number ns u) → IsListed steps u
listed_node numbering ns visits steps u zip there m = (m.0, unit_of_node numbering ns visits steps m.0 u zip there m.1)

pub walk_root : (link : Link) (graph : Graph) (rows : List (List ℕ)) (visits : List Visit) (steps : List Step) → IsGraphOf link graph → IsWalk rows graph.roots visits → AreVisitSteps (all_units (units_of link.objects)) visits steps → (place : ℕ) (s : Step) → slice_get steps place ≡ Some s → s.from ≡ None → IsRoot link (step_unit s)
walk_root link graph rows visits steps g walk zip place s at none =
    let ns : List UnitCounts = units_of link.objects in
    let v = visited_step ns visits steps place s zip at in
    let root : Contains graph.roots v.visit.node = walk.root place v.visit v.at (sym v.from ∙ none) in
    (g.roots (step_unit s) v.there).0 (rw v.number root)

pub walk_from : Numbering → (link : Link) (graph : Graph) (rows : List (List ℕ)) (visits : List Visit) (steps : List Step) → IsGraphOf link graph → HasEdges graph.edges rows → IsWalk rows graph.roots visits → AreVisitSteps (all_units (units_of link.objects)) visits steps → (place from : ℕ) (s : Step) → slice_get steps place ≡ Some s → s.from ≡ Some from → ComesFrom link steps from place (step_unit s)
walk_from numbering link graph rows visits steps g edges walk zip place from s at comes =
    let ns : List UnitCounts = units_of link.objects in
    let v = visited_step ns visits steps place s zip at in
    let leads = walk.from place from v.visit v.at (sym v.from ∙ comes) in
    let w = visit_at visits from leads.other leads.at in
    let z = zip_right (IsVisitStep (all_units ns)) visits steps from w.0 zip w.1 in
    let h = all_at ns w.0.node (step_unit z.0) z.2.unit in
    let source : unit_number ns (step_unit z.0) ≡ leads.other = h.number ∙ w.2 in
    let one : Contains graph.edges (record { from = leads.other; to = v.visit.node }) = (edges leads.other v.visit.node).0 leads.edge in
    let listed : Contains graph.edges (edge_between ns (step_unit z.0) (step_unit s)) = rw (source, v.number) one in
    record {
      before = leads.before;
      unit = step_unit z.0;
      at = unit_here steps from z.0 z.1;
      refers = (g.edges (step_unit z.0) (step_unit s) h.there v.there).0 listed;
    }

pub walk_valid : Numbering → (link : Link) (graph : Graph) (rows : List (List ℕ)) (visits : List Visit) (steps : List Step) → link.args.gc_sections ≡ true → IsGraphOf link graph → HasEdges graph.edges rows → IsWalk rows graph.roots visits → AreVisitSteps (all_units (units_of link.objects)) visits steps → IsValid link steps
walk_valid numbering link graph rows visits steps on g edges walk zip =
    let ns : List UnitCounts = units_of link.objects in
    record {
      exist = λ place u at. (visited_unit ns visits steps place u zip at).there;
      once = λ j k u a b. walk.once j k (unit_number ns u) (visited_unit ns visits steps j u zip a).node (visited_unit ns visits steps k u zip b).node;
      root = λ is place s at none. walk_root link graph rows visits steps g walk zip place s at none;
      from = λ is place from s at comes. walk_from numbering link graph rows visits steps g edges walk zip place from s at comes;
      roots = λ is u root.
          let there : exists ns u ≡ true = numbering.roots link u root in
          listed_node numbering ns visits steps u zip there (walk.roots (unit_number ns u) ((g.roots u there).1 root));
      closed = λ is u v m refers.
          let one : Contains graph.edges (edge_between ns u v) = (g.edges u v refers.from refers.to).1 refers in
          let edge : HasEdge rows (unit_number ns u) (unit_number ns v) = (edges (unit_number ns u) (unit_number ns v)).1 one in
          let here = visited_unit ns visits steps m.0 u zip m.1 in
          listed_node numbering ns visits steps v zip refers.to (walk.closed (unit_number ns u) (unit_number ns v) (m.0, here.node) edge);
      off = λ off. absurd (true≢false (sym on ∙ off));
      all = λ off. absurd (true≢false (sym on ∙ off));
    }

-- ---- in the order of the walk

pub walk_order : (link : Link) (graph : Graph) (rows : List (List ℕ)) (visits : List Visit) (steps : List Step) → IsGraphOf link graph → HasEdges graph.edges rows → IsInOrder rows graph.roots visits → AreVisitSteps (all_units (units_of link.objects)) visits steps → IsBreadthFirst link steps
walk_order link graph rows visits steps g edges order zip =
    let ns : List UnitCounts = units_of link.objects in
    record {
      root = λ place s at root.
          let v = visited_step ns visits steps place s zip at in
          let one : Contains graph.roots v.visit.node = rw v.number at ((g.roots (step_unit s) v.there).1 root) in
          v.from ∙ order.root place v.visit v.at one;
      first = λ place from other s u at comes there refers.
          let v = visited_step ns visits steps place s zip at in
          let o = visited_unit ns visits steps other u zip there in
          let one : Contains graph.edges (edge_between ns u (step_unit s)) = (g.edges u (step_unit s) o.there v.there).1 refers in
          let edge : HasEdge rows (unit_number ns u) (unit_number ns (step_unit s)) = (edges (unit_number ns u) (unit_number ns (step_unit s))).1 one in
          order.first place from other (unit_number ns u) v.visit v.at (sym v.from ∙ comes) o.node (subst (λ (n : ℕ). HasEdge rows (unit_number ns u) n) v.number edge);
      ahead = λ j k s t lt at there none.
          let v = visited_step ns visits steps j s zip at in
          let w = visited_step ns visits steps k t zip there in
          v.from ∙ order.ahead j k v.visit w.visit lt v.at w.at (sym w.from ∙ none);
      order = λ j k a b s t lt at there comes goes.
          let v = visited_step ns visits steps j s zip at in
          let w = visited_step ns visits steps k t zip there in
          order.order j k a b v.visit w.visit lt v.at w.at (sym v.from ∙ comes) (sym w.from ∙ goes);
    }

-- where no step comes from another
pub plain_order : (link : Link) (steps : List Step) → link.args.gc_sections ≡ false → IsValid link steps → IsBreadthFirst link steps
plain_order link steps off valid = record {
  root = λ place s at root. valid.off off place s at;
  first = λ place from other s u at comes. absurd (none_some s.from from (valid.off off place s at) comes);
  ahead = λ j k s t lt at there none. valid.off off j s at;
  order = λ j k a b s t lt at there comes. absurd (none_some s.from a (valid.off off j s at) comes);
}
