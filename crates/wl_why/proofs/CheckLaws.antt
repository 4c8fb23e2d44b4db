-- The checker's tests are what makes a certificate valid.
use Rattle.std.proofs.Common.{◌≡◌, ◌⊎◌, ℕ, ◌+◌, ◌<◌, ◌≤◌, Bool, true, false, cond, List, length, get_or, replicate, inl, inr, refl, ap, sym, ◌∙◌, subst, arith, Option, Some, None, All, Contains, IfSome, slice_get, is_none}
use Rattle.std.proofs.lemmas.Bool.{cases_lt, true≢false, false≢true, cond-true, eq-eqb, eqb-true}
use Rattle.std.proofs.lemmas.List.Elements.{All-contains, All-from_get_or, Contains-get_or}
use Rattle.std.proofs.lemmas.List.{length-replicate}
use Rattle.std.proofs.lemmas.Option.{same_Some, cond_some, option_and_then_some, slice_get_within, slice_get-get_or}
use Rattle.wl_reach.specs.Marks.{IsMarked}
use Rattle.wl_reach.specs.declared.graph.Edge.{Edge}
use Rattle.wl_symbols.specs.Link.{Link}
use Rattle.wl_symbols.specs.Units.{units_of, exists, unit_number, total_of}
use Rattle.wl_symbols.specs.Roots.{IsRoot}
use Rattle.wl_live.specs.UnitGraph.{Graph, edge_between, IsGraphOf}
use Rattle.wl_symbols.specs.declared.units.LinkUnit.{LinkUnit}
use Rattle.wl_symbols.specs.declared.units.UnitCounts.{UnitCounts}
use Rattle.wl_why.specs.Certificate.{step_unit, unit_at_place, IsListed, ComesFrom, IsValid}
use Rattle.wl_why.specs.Marked.{with_marks}
use Rattle.wl_why.specs.Checking.{root_place, is_from, from_place, justified_by_root, justified_by_edge, AreJustified}
use Rattle.wl_why.specs.Places.{ArePlaces, AreUnits}
use Rattle.wl_why.specs.declared.certificate.Step.{Step}
use Rattle.wl_why.proofs.Numbering.{Numbering, no_step, unit_here, place_within, same_unit_here, same_step_here}
use Rattle.wl_why.proofs.PlaceLaws.{units_from_places}
use Rattle.wl_why.proofs.MarkedLaws.{length-with_marks, with_marks_old, with_marks_new, with_marks_cases, none_marked}

-- ---- which units are listed

pub listed_place : (ns : List UnitCounts) (steps : List Step) (places : List ℕ) (u : LinkUnit) → ArePlaces ns steps places → IsListed steps u → get_or places (unit_number ns u) 0 < length steps
listed_place ns steps places u p m =
    let lt : m.0 < length steps = place_within steps m.0 u m.1 in
    omega (arith, lt, p.at m.0 u lt m.1)

-- the step at the place of a unit
pub step_at_place : Numbering → (ns : List UnitCounts) (steps : List Step) (places : List ℕ) (u : LinkUnit) → ArePlaces ns steps places → exists ns u ≡ true → get_or places (unit_number ns u) 0 < length steps → unit_at_place steps (get_or places (unit_number ns u) 0) ≡ Some u
step_at_place numbering ns steps places u p there less =
    let has = p.only (unit_number ns u) (numbering.below ns u there) less in
    let exist : exists ns has.unit ≡ true = p.exist (get_or places (unit_number ns u) 0) has.unit has.below has.at in
    let unit : has.unit ≡ u = numbering.own ns has.unit u exist there has.number in
    has.at ∙ ap Some unit

pub place_listed : Numbering → (ns : List UnitCounts) (steps : List Step) (places : List ℕ) (u : LinkUnit) → ArePlaces ns steps places → exists ns u ≡ true → get_or places (unit_number ns u) 0 < length steps → IsListed steps u
place_listed numbering ns steps places u p there less = (get_or places (unit_number ns u) 0, step_at_place numbering ns steps places u p there less)

-- the number of the unit of a step that a number has its place at
pub number_here : (ns : List UnitCounts) (steps : List Step) (places : List ℕ) (n place : ℕ) (u : LinkUnit) → ArePlaces ns steps places → n < total_of ns → get_or places n 0 ≡ place → unit_at_place steps place ≡ Some u → unit_number ns u ≡ n
number_here ns steps places n place u p small is at =
    let less : get_or places n 0 < length steps = omega (arith, is, place_within steps place u at) in
    let has = p.only n small less in
    let here : unit_at_place steps place ≡ Some has.unit = subst (λ (k : ℕ). unit_at_place steps k ≡ Some has.unit) is has.at in
    ap (unit_number ns) (same_unit_here steps place u has.unit at here) ∙ has.number

-- ---- which steps are justified

pub root_place_parts : (steps : List Step) (place k : ℕ) → root_place steps place ≡ Some k → (place ≡ k) × (s : Step) × (slice_get steps place ≡ Some s) × (s.from ≡ None)
root_place_parts steps place k e =
    option_and_then_some (λ (s : Step). cond (is_none s.from) (Some place) None) (slice_get steps place) k e
    (λ s at f. let p = cond_some (is_none s.from) place k f in (p.1, s, at, none_from s.from p.0))
  where
    none_from : (o : Option ℕ) → is_none o ≡ true → o ≡ None
    none_from None t = refl
    none_from (Some x) t = absurd (false≢true t)

pub root_place_is : (steps : List Step) (place : ℕ) (s : Step) → slice_get steps place ≡ Some s → s.from ≡ None → root_place steps place ≡ Some place
root_place_is steps place s at none = rw (at, none) refl

pub is_from_parts : (o : Option ℕ) (j : ℕ) → is_from o j ≡ true → o ≡ Some j
is_from_parts None j t = absurd (false≢true t)
is_from_parts (Some x) j t = ap Some (eqb-true x j t)

pub from_place_parts : (steps : List Step) (from place k : ℕ) → from_place steps from place ≡ Some k → (place ≡ k) × (s : Step) × (slice_get steps place ≡ Some s) × (s.from ≡ Some from)
from_place_parts steps from place k e =
    option_and_then_some (λ (s : Step). cond (is_from s.from from) (Some place) None) (slice_get steps place) k e
    (λ s at f. let p = cond_some (is_from s.from from) place k f in (p.1, s, at, is_from_parts s.from from p.0))

pub from_place_is : (steps : List Step) (from place : ℕ) (s : Step) → slice_get steps place ≡ Some s → s.from ≡ Some from → from_place steps from place ≡ Some place
from_place_is steps from place s at comes =
    let test : is_from s.from from ≡ true = ap (λ (o : Option ℕ). is_from o from) comes ∙ eq-eqb from from refl in
    rw at (cond-true (is_from s.from from) (Some place) None test)

-- the marks of a graph
abbrev pub justified_marks : List ℕ → List Step → Graph → List Bool
justified_marks places steps graph =
    with_marks (justified_by_edge places steps)
    (with_marks (justified_by_root places steps) (replicate (length steps) false) graph.roots) graph.edges

-- a root or a reference justifies a marked step
pub justified_cases : (places : List ℕ) (steps : List Step) (graph : Graph) (k : ℕ) → IsMarked (justified_marks places steps graph) k → ((n : ℕ) × Contains graph.roots n × (justified_by_root places steps n ≡ Some k)) ⊎ ((e : Edge) × Contains graph.edges e × (justified_by_edge places steps e ≡ Some k))
justified_cases places steps graph k m =
    elim (with_marks_cases (justified_by_edge places steps) (with_marks (justified_by_root places steps) (replicate (length steps) false) graph.roots) graph.edges k m) [
      | inr edge ↦ inr edge
      | inl old ↦
          elim (with_marks_cases (justified_by_root places steps) (replicate (length steps) false) graph.roots k old) [
            | inr root ↦ inl root
            | inl none ↦ absurd (none_marked (length steps) k none)
          ]
    ]

pub justified_root : (places : List ℕ) (steps : List Step) (graph : Graph) (k n : ℕ) → Contains graph.roots n → justified_by_root places steps n ≡ Some k → k < length steps → IsMarked (justified_marks places steps graph) k
justified_root places steps graph k n m e lt =
    with_marks_old (justified_by_edge places steps) (with_marks (justified_by_root places steps) (replicate (length steps) false) graph.roots) graph.edges k
    (with_marks_new (justified_by_root places steps) (replicate (length steps) false) graph.roots k n m e (rw length-replicate lt))

pub justified_edge : (places : List ℕ) (steps : List Step) (graph : Graph) (k : ℕ) (x : Edge) → Contains graph.edges x → justified_by_edge places steps x ≡ Some k → k < length steps → IsMarked (justified_marks places steps graph) k
justified_edge places steps graph k x m e lt =
    with_marks_new (justified_by_edge places steps) (with_marks (justified_by_root places steps) (replicate (length steps) false) graph.roots) graph.edges k x m e
    (rw (length-with_marks, length-replicate) lt)

-- ---- where units are collected: from the tests

pub same_edge : (e : Edge) (a b : ℕ) → a ≡ e.from → b ≡ e.to → record { from = a; to = b } ≡ e
same_edge e a b from to = rw (from, to) refl

pub root_from_mark : (link : Link) (steps : List Step) (places : List ℕ) (graph : Graph) → ArePlaces (units_of link.objects) steps places → IsGraphOf link graph → (place : ℕ) (s : Step) → slice_get steps place ≡ Some s → s.from ≡ None → IsMarked (justified_marks places steps graph) place → IsRoot link (step_unit s)
root_from_mark link steps places graph p g place s at none m =
    let ns : List UnitCounts = units_of link.objects in
    let here : unit_at_place steps place ≡ Some (step_unit s) = unit_here steps place s at in
    let there : exists ns (step_unit s) ≡ true = p.exist place (step_unit s) (place_within steps place (step_unit s) here) here in
    elim (justified_cases places steps graph place m) [
      | inl root ↦
          let q = root_place_parts steps (get_or places root.0 0) place root.2 in
          let small : root.0 < total_of ns = All-contains (λ (n : ℕ). n < total_of ns) graph.roots root.0 g.begin root.1 in
          let number : unit_number ns (step_unit s) ≡ root.0 = number_here ns steps places root.0 place (step_unit s) p small q.0 here in
          (g.roots (step_unit s) there).0 (rw number root.1)
      | inr edge ↦
          let q = from_place_parts steps (get_or places edge.0.from 0) (get_or places edge.0.to 0) place edge.2 in
          let same : q.1 ≡ s = same_step_here steps place q.1 s (subst (λ (k : ℕ). slice_get steps k ≡ Some q.1) q.0 q.2) at in
          let both : None ≡ Some (get_or places edge.0.from 0) = sym none ∙ (ap (λ (t : Step). t.from) (sym same) ∙ q.3) in
          absurd (cc)
    ]

pub from_from_mark : (link : Link) (steps : List Step) (places : List ℕ) (graph : Graph) → ArePlaces (units_of link.objects) steps places → IsGraphOf link graph → (place from : ℕ) (s : Step) → slice_get steps place ≡ Some s → s.from ≡ Some from → from < place → IsMarked (justified_marks places steps graph) place → ComesFrom link steps from place (step_unit s)
from_from_mark link steps places graph p g place from s at comes before m =
    let ns : List UnitCounts = units_of link.objects in
    let here : unit_at_place steps place ≡ Some (step_unit s) = unit_here steps place s at in
    let within : place < length steps = place_within steps place (step_unit s) here in
    let there : exists ns (step_unit s) ≡ true = p.exist place (step_unit s) within here in
    elim (justified_cases places steps graph place m) [
      | inl root ↦
          let q = root_place_parts steps (get_or places root.0 0) place root.2 in
          let same : q.1 ≡ s = same_step_here steps place q.1 s (subst (λ (k : ℕ). slice_get steps k ≡ Some q.1) q.0 q.2) at in
          let both : None ≡ Some from = sym q.3 ∙ (ap (λ (t : Step). t.from) same ∙ comes) in
          absurd (cc)
      | inr edge ↦
          let e : Edge = edge.0 in
          let q = from_place_parts steps (get_or places e.from 0) (get_or places e.to 0) place edge.2 in
          let same : q.1 ≡ s = same_step_here steps place q.1 s (subst (λ (k : ℕ). slice_get steps k ≡ Some q.1) q.0 q.2) at in
          let source : get_or places e.from 0 ≡ from = same_Some (get_or places e.from 0) from (sym q.3 ∙ (ap (λ (t : Step). t.from) same ∙ comes)) in
          let small_from : e.from < total_of ns = All-contains (λ (x : Edge). x.from < total_of ns) graph.edges e g.from edge.1 in
          let small_to : e.to < total_of ns = All-contains (λ (x : Edge). x.to < total_of ns) graph.edges e g.to edge.1 in
          let number : unit_number ns (step_unit s) ≡ e.to = number_here ns steps places e.to place (step_unit s) p small_to q.0 here in
          let has = p.only e.from small_from (omega (arith, source, before, within)) in
          let unit : unit_at_place steps from ≡ Some has.unit = subst (λ (k : ℕ). unit_at_place steps k ≡ Some has.unit) source has.at in
          let other : exists ns has.unit ≡ true = p.exist (get_or places e.from 0) has.unit has.below has.at in
          let listed : Contains graph.edges (edge_between ns has.unit (step_unit s)) = rw (same_edge e (unit_number ns has.unit) (unit_number ns (step_unit s)) has.number number) edge.1 in
          record { before = before; unit = has.unit; at = unit; refers = (g.edges has.unit (step_unit s) other there).0 listed }
    ]

pub IfSome_at : (o : Option ℕ) (P : ℕ → Type 0) (x : ℕ) → o ≡ Some x → IfSome o P → P x
IfSome_at o P x e h = rw e at h

pub traced_valid : Numbering → (link : Link) (steps : List Step) (places : List ℕ) (graph : Graph) → link.args.gc_sections ≡ true → ArePlaces (units_of link.objects) steps places → IsGraphOf link graph → All (λ n. get_or places n 0 < length steps) graph.roots → All (λ e. get_or places e.from 0 < length steps → get_or places e.to 0 < length steps) graph.edges → AreJustified steps (justified_marks places steps graph) → IsValid link steps
traced_valid numbering link steps places graph on p g listed closed just =
    let ns : List UnitCounts = units_of link.objects in
    let units : AreUnits ns steps = units_from_places ns steps places p in
    record {
      exist = units.exist;
      once = units.once;
      root = λ is place s at none. root_from_mark link steps places graph p g place s at none (just place s at).0;
      from = λ is place from s at comes.
          from_from_mark link steps places graph p g place from s at comes (IfSome_at s.from (λ j. j < place) from comes (just place s at).1) (just place s at).0;
      roots = λ is u root.
          let there : exists ns u ≡ true = numbering.roots link u root in
          let one : Contains graph.roots (unit_number ns u) = (g.roots u there).1 root in
          place_listed numbering ns steps places u p there (All-contains (λ (n : ℕ). get_or places n 0 < length steps) graph.roots (unit_number ns u) listed one);
      closed = λ is u v m refers.
          let one : Contains graph.edges (edge_between ns u v) = (g.edges u v refers.from refers.to).1 refers in
          let less : get_or places (unit_number ns u) 0 < length steps = listed_place ns steps places u p m in
          place_listed numbering ns steps places v p refers.to
          (All-contains (λ (e : Edge). get_or places e.from 0 < length steps → get_or places e.to 0 < length steps) graph.edges (edge_between ns u v) closed one less);
      off = λ off. absurd (true≢false (sym on ∙ off));
      all = λ off. absurd (true≢false (sym on ∙ off));
    }

-- ---- where units are collected: to the tests

pub valid_roots : Numbering → (link : Link) (steps : List Step) (places : List ℕ) (graph : Graph) → link.args.gc_sections ≡ true → ArePlaces (units_of link.objects) steps places → IsGraphOf link graph → IsValid link steps → All (λ n. get_or places n 0 < length steps) graph.roots
valid_roots numbering link steps places graph on p g valid =
    let ns : List UnitCounts = units_of link.objects in
    All-from_get_or (λ (n : ℕ). get_or places n 0 < length steps) graph.roots 0
    (λ k lt.
    let n : ℕ = get_or graph.roots k 0 in
    let h = numbering.each ns n (g.begin k 0 lt) in
    let one : Contains graph.roots (unit_number ns h.0) = rw h.2 (Contains-get_or graph.roots k 0 lt) in
    let listed : IsListed steps h.0 = valid.roots on h.0 ((g.roots h.0 h.1).0 one) in
    rw h.2 at (listed_place ns steps places h.0 p listed))

pub valid_edges : Numbering → (link : Link) (steps : List Step) (places : List ℕ) (graph : Graph) → link.args.gc_sections ≡ true → ArePlaces (units_of link.objects) steps places → IsGraphOf link graph → IsValid link steps → All (λ e. get_or places e.from 0 < length steps → get_or places e.to 0 < length steps) graph.edges
valid_edges numbering link steps places graph on p g valid =
    let ns : List UnitCounts = units_of link.objects in
    let none : Edge = record { from = 0; to = 0 } in
    All-from_get_or (λ (e : Edge). get_or places e.from 0 < length steps → get_or places e.to 0 < length steps) graph.edges none
    (λ k lt less.
    let e : Edge = get_or graph.edges k none in
    let u = numbering.each ns e.from (g.from k none lt) in
    let v = numbering.each ns e.to (g.to k none lt) in
    let one : Contains graph.edges (edge_between ns u.0 v.0) = rw (same_edge e (unit_number ns u.0) (unit_number ns v.0) u.2 v.2) (Contains-get_or graph.edges k none lt) in
    let listed : IsListed steps u.0 = place_listed numbering ns steps places u.0 p u.1 (rw u.2 less) in
    let other : IsListed steps v.0 = valid.closed on u.0 v.0 listed ((g.edges u.0 v.0 u.1 v.1).0 one) in
    rw v.2 at (listed_place ns steps places v.0 p other))

pub none_is_justified : Numbering → (link : Link) (steps : List Step) (places : List ℕ) (graph : Graph) → link.args.gc_sections ≡ true → ArePlaces (units_of link.objects) steps places → IsGraphOf link graph → IsValid link steps → (place : ℕ) (s : Step) → slice_get steps place ≡ Some s → s.from ≡ None → IsMarked (justified_marks places steps graph) place
none_is_justified numbering link steps places graph on p g valid place s at none =
    let ns : List UnitCounts = units_of link.objects in
    let here : unit_at_place steps place ≡ Some (step_unit s) = unit_here steps place s at in
    let within : place < length steps = slice_get_within steps place s at in
    let there : exists ns (step_unit s) ≡ true = valid.exist place (step_unit s) here in
    let one : Contains graph.roots (unit_number ns (step_unit s)) = (g.roots (step_unit s) there).1 (valid.root on place s at none) in
    let is : get_or places (unit_number ns (step_unit s)) 0 ≡ place = p.at place (step_unit s) within here in
    justified_root places steps graph place (unit_number ns (step_unit s)) one (rw is (root_place_is steps place s at none)) within

pub from_is_justified : Numbering → (link : Link) (steps : List Step) (places : List ℕ) (graph : Graph) → link.args.gc_sections ≡ true → ArePlaces (units_of link.objects) steps places → IsGraphOf link graph → IsValid link steps → (place from : ℕ) (s : Step) → slice_get steps place ≡ Some s → s.from ≡ Some from → IsMarked (justified_marks places steps graph) place
from_is_justified numbering link steps places graph on p g valid place from s at comes =
    let ns : List UnitCounts = units_of link.objects in
    let here : unit_at_place steps place ≡ Some (step_unit s) = unit_here steps place s at in
    let within : place < length steps = slice_get_within steps place s at in
    let there : exists ns (step_unit s) ≡ true = valid.exist place (step_unit s) here in
    let other = valid.from on place from s at comes in
    let one : Contains graph.edges (edge_between ns other.unit (step_unit s)) = (g.edges other.unit (step_unit s) other.refers.from there).1 other.refers in
    let to : get_or places (unit_number ns (step_unit s)) 0 ≡ place = p.at place (step_unit s) within here in
    let source : get_or places (unit_number ns other.unit) 0 ≡ from = p.at from other.unit (place_within steps from other.unit other.at) other.at in
    justified_edge places steps graph place (edge_between ns other.unit (step_unit s)) one (rw (to, source) (from_place_is steps from place s at comes)) within

pub justified_by_cases : (steps : List Step) (marks : List Bool) (place : ℕ) (s : Step) (o : Option ℕ) → s.from ≡ o → (o ≡ None → IsMarked marks place) → ((j : ℕ) → o ≡ Some j → IsMarked marks place × (j < place)) → IsMarked marks place × IfSome o (λ j. j < place)
justified_by_cases steps marks place s None is none some = (none refl, tt)
justified_by_cases steps marks place s (Some j) is none some = some j refl

pub valid_justified : Numbering → (link : Link) (steps : List Step) (places : List ℕ) (graph : Graph) → link.args.gc_sections ≡ true → ArePlaces (units_of link.objects) steps places → IsGraphOf link graph → IsValid link steps → AreJustified steps (justified_marks places steps graph)
valid_justified numbering link steps places graph on p g valid place s at =
    justified_by_cases steps (justified_marks places steps graph) place s s.from refl
    (λ none. none_is_justified numbering link steps places graph on p g valid place s at none)
    (λ j comes. (from_is_justified numbering link steps places graph on p g valid place j s at comes, (valid.from on place j s at comes).before))

-- ---- step by step

-- the first steps are justified
abbrev pub JustifiedTo : List Step → List Bool → ℕ → Type 0
JustifiedTo steps marks count = (place : ℕ) (s : Step) → place < count → slice_get steps place ≡ Some s → IsMarked marks place × IfSome s.from (λ j. j < place)

pub justified_more : (steps : List Step) (marks : List Bool) (i : ℕ) → i < length steps → JustifiedTo steps marks i → IsMarked marks i → IfSome (get_or steps i no_step).from (λ j. j < i) → JustifiedTo steps marks (i + 1)
justified_more steps marks i lt before marked behind place s below at =
    elim (cases_lt place i) [
      | inl less ↦ before place s less at
      | inr more ↦
          let here : place ≡ i = omega arith in
          let same : get_or steps i no_step ≡ s = same_Some (get_or steps i no_step) s (sym (slice_get-get_or steps i no_step lt) ∙ (ap (slice_get steps) (sym here) ∙ at)) in
          (rw here marked, rw here (subst (λ (t : Step). IfSome t.from (λ j. j < i)) same behind))
    ]

pub justified_all : (steps : List Step) (marks : List Bool) (i : ℕ) → JustifiedTo steps marks i → length steps ≤ i → AreJustified steps marks
justified_all steps marks i before le place s at = before place s (omega (arith, slice_get_within steps place s at)) at

-- a step that isn't marked, or comes from one that isn't before it
pub unmarked_step : (steps : List Step) (marks : List Bool) (i : ℕ) → i < length steps → get_or marks i false ≡ false → AreJustified steps marks → ⊥
unmarked_step steps marks i lt unmarked just = false≢true (sym unmarked ∙ (just i (get_or steps i no_step) (slice_get-get_or steps i no_step lt)).0)

pub behind_step : (steps : List Step) (marks : List Bool) (i : ℕ) → i < length steps → AreJustified steps marks → IfSome (get_or steps i no_step).from (λ j. j < i)
behind_step steps marks i lt just = (just i (get_or steps i no_step) (slice_get-get_or steps i no_step lt)).1

-- ---- where nothing is left out

pub whole_valid : Numbering → (link : Link) (steps : List Step) (places : List ℕ) → link.args.gc_sections ≡ false → ArePlaces (units_of link.objects) steps places → All (λ (s : Step). s.from ≡ None) steps → All (λ place. place < length steps) places → IsValid link steps
whole_valid numbering link steps places off p plain all =
    let ns : List UnitCounts = units_of link.objects in
    let units : AreUnits ns steps = units_from_places ns steps places p in
    record {
      exist = units.exist;
      once = units.once;
      root = λ on. absurd (true≢false (sym on ∙ off));
      from = λ on. absurd (true≢false (sym on ∙ off));
      roots = λ on. absurd (true≢false (sym on ∙ off));
      closed = λ on. absurd (true≢false (sym on ∙ off));
      off = λ is place s at. plain_at place s at;
      all = λ is u there.
          let lt : unit_number ns u < length places = rw p.size (numbering.below ns u there) in
          place_listed numbering ns steps places u p there (all (unit_number ns u) 0 lt);
    }
  where
    plain_at : (place : ℕ) (s : Step) → slice_get steps place ≡ Some s → s.from ≡ None
    plain_at place s at =
        let lt : place < length steps = slice_get_within steps place s at in
        let same : get_or steps place s ≡ s = same_Some (get_or steps place s) s (sym (slice_get-get_or steps place s lt) ∙ at) in
        subst (λ (t : Step). t.from ≡ None) same (plain place s lt)

pub valid_plain : (link : Link) (steps : List Step) → link.args.gc_sections ≡ false → IsValid link steps → All (λ (s : Step). s.from ≡ None) steps
valid_plain link steps off valid = λ k d lt. valid.off off k (get_or steps k d) (slice_get-get_or steps k d lt)

pub valid_all : Numbering → (link : Link) (steps : List Step) (places : List ℕ) → link.args.gc_sections ≡ false → ArePlaces (units_of link.objects) steps places → IsValid link steps → All (λ place. place < length steps) places
valid_all numbering link steps places off p valid =
    let ns : List UnitCounts = units_of link.objects in
    All-from_get_or (λ (place : ℕ). place < length steps) places 0
    (λ n lt.
    let h = numbering.each ns n (rw p.size at lt) in
    rw h.2 at (listed_place ns steps places h.0 p (valid.all off h.0 h.1)))

-- ---- no places

pub valid_units : (link : Link) (steps : List Step) → IsValid link steps → AreUnits (units_of link.objects) steps
valid_units link steps valid = record { exist = valid.exist; once = valid.once }
