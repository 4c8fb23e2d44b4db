-- What is reached among the numbers is what is reached among the units.
use Rattle.std.proofs.Common.{◌≡◌, ℕ, zero, suc, ◌<◌, Bool, true, List, [], ◌∷◌, get_or, inl, inr, refl, ap, sym, ◌∙◌, subst, arith, Option, Some, None, All, Contains}
use Rattle.std.specs.Option.{option_map, option_and_then, option_to_list}
use Rattle.std.proofs.lemmas.List.Elements.{Contains-append_left, Contains-append_right, Contains-append_cases, Contains-get_or}
use Rattle.std.proofs.lemmas.Option.{same_Some}
use Rattle.wl_reach.specs.Search.{IsReached, MarksReached}
use Rattle.wl_reach.specs.Graph.{HasEdge, HasEdges}
use Rattle.wl_reach.specs.declared.graph.Edge.{Edge}
use Rattle.wl_lists.proofs.In.{Contains-here, Contains-there, Contains-cons_cases}
use Rattle.wl_reach.proofs.ChainLaws.{IsReached-root, IsReached-step, IsReached-closed}
use Rattle.wl_symbols.specs.declared.units.LinkUnit.{LinkUnit}
use Rattle.wl_symbols.specs.declared.units.UnitCounts.{UnitCounts}
use Rattle.wl_symbols.specs.Units.{exists, unit_number, unit_number_if, total_of}
use Rattle.wl_live.specs.Table.{Reference, found, edge_of, Leads, Begins}
use Rattle.wl_live.specs.Marking.{UnitsReached}
use Rattle.wl_symbols.proofs.NumberingLaws.{number_if_found, number_if_parts, unit_number-injective, unit_number-lt}

-- ---- what is found

pub Contains-option : {Y : Type 0} (o : Option Y) (y : Y) → o ≡ Some y → Contains (option_to_list o) y
Contains-option None y e = absurd (cc)
Contains-option (Some x) y e = (0, omega arith, same_Some x y e)

pub option-contains : {Y : Type 0} (o : Option Y) (y : Y) → Contains (option_to_list o) y → o ≡ Some y
option-contains None y m = absurd (omega (arith, m.1))
option-contains (Some x) y (zero, lt, e) = ap Some e
option-contains (Some x) y (suc k, lt, e) = absurd (omega arith)

pub Contains-found : {X Y : Type 0} (f : X → Option Y) (xs : List X) (x : X) (y : Y) → Contains xs x → f x ≡ Some y → Contains (found f xs) y
Contains-found f [] x y m e = absurd (omega (arith, m.1))
Contains-found f (z ∷ xs) x y m e =
    elim (Contains-cons_cases z x xs m) [
      | inl here ↦ Contains-append_left (option_to_list (f z)) (found f xs) y (Contains-option (f z) y (ap f here ∙ e))
      | inr there ↦ Contains-append_right (option_to_list (f z)) (found f xs) y (Contains-found f xs x y there e)
    ]

pub Contains-found_from : {X Y : Type 0} (f : X → Option Y) (xs : List X) (y : Y) → Contains (found f xs) y → (x : X) × Contains xs x × (f x ≡ Some y)
Contains-found_from f [] y m = absurd (omega (arith, m.1))
Contains-found_from f (z ∷ xs) y m =
    elim (Contains-append_cases (option_to_list (f z)) (found f xs) y m) [
      | inl here ↦ (z, Contains-here z xs, option-contains (f z) y here)
      | inr there ↦ let r = Contains-found_from f xs y there in (r.0, Contains-there z r.0 xs r.1, r.2)
    ]

pub All-found : {X Y : Type 0} (P : Y → Type 0) (f : X → Option Y) → ((x : X) (y : Y) → f x ≡ Some y → P y) → (xs : List X) → All P (found f xs)
All-found P f each xs = λ k d lt. let r = Contains-found_from f xs (get_or (found f xs) k d) (Contains-get_or (found f xs) k d lt) in each r.0 (get_or (found f xs) k d) r.2

-- ---- edges

pub edge_parts : (p q : Option ℕ) (e : Edge) → option_and_then (λ a. option_map (λ b. record { from = a; to = b }) q) p ≡ Some e → (p ≡ Some e.from) × (q ≡ Some e.to)
edge_parts None q e h = absurd (cc)
edge_parts (Some a) None e h = absurd (cc)
edge_parts (Some a) (Some b) e h = let s = same_Some _ e h in (ap (λ (x : Edge). Some x.from) s, ap (λ (x : Edge). Some x.to) s)

pub edge_of-from : (ns : List UnitCounts) (r : Reference) (e : Edge) → edge_of ns r ≡ Some e → (unit_number_if ns r.from ≡ Some e.from) × (unit_number_if ns r.to ≡ Some e.to)
edge_of-from ns r e h = edge_parts (unit_number_if ns r.from) (unit_number_if ns r.to) e h

abbrev pub edge_between : Option ℕ → Option ℕ → Option Edge
edge_between p q = option_and_then (λ a. option_map (λ b. record { from = a; to = b }) q) p

pub edge_made : (p q : Option ℕ) (a b : ℕ) → p ≡ Some a → q ≡ Some b → edge_between p q ≡ Some (record { from = a; to = b })
edge_made p q a b e f = rw (e, f) refl

pub edge_of-is : (ns : List UnitCounts) (u v : LinkUnit) → exists ns u ≡ true → exists ns v ≡ true → edge_of ns (record { from = u; to = v }) ≡ Some (record { from = unit_number ns u; to = unit_number ns v })
edge_of-is ns u v hu hv = edge_made (unit_number_if ns u) (unit_number_if ns v) (unit_number ns u) (unit_number ns v) (number_if_found ns u hu) (number_if_found ns v hv)

pub numbers-lt : (ns : List UnitCounts) (us : List LinkUnit) → All (λ n. n < total_of ns) (found (unit_number_if ns) us)
numbers-lt ns us = All-found (λ n. n < total_of ns) (unit_number_if ns) (λ u n e. let p = number_if_parts ns u n e in rw (← p.1) (unit_number-lt ns u p.0)) us

pub edges_from-lt : (ns : List UnitCounts) (refs : List Reference) → All (λ e. e.from < total_of ns) (found (edge_of ns) refs)
edges_from-lt ns refs =
    All-found (λ (e : Edge). e.from < total_of ns) (edge_of ns)
    (λ r e h. let q = edge_of-from ns r e h in let p = number_if_parts ns r.from e.from q.0 in rw (← p.1) (unit_number-lt ns r.from p.0)) refs

pub edges_to-lt : (ns : List UnitCounts) (refs : List Reference) → All (λ e. e.to < total_of ns) (found (edge_of ns) refs)
edges_to-lt ns refs =
    All-found (λ (e : Edge). e.to < total_of ns) (edge_of ns)
    (λ r e h. let q = edge_of-from ns r e h in let p = number_if_parts ns r.to e.to q.1 in rw (← p.1) (unit_number-lt ns r.to p.0)) refs

-- ---- chains

-- the number of a unit that is reached
pub record ReachedAt (ns : List UnitCounts) (refs : List Reference) (begins : List LinkUnit) (n : ℕ) : Type 0 where
  pub unit : LinkUnit
  pub there : exists ns unit ≡ true
  pub number : unit_number ns unit ≡ n
  pub reached : IsReached (Begins ns begins) (Leads ns refs) unit

abbrev pub IsGraphOf : List UnitCounts → List Reference → List (List ℕ) → Type 0
IsGraphOf ns refs rows = HasEdges (found (edge_of ns) refs) rows

pub reached_only : (ns : List UnitCounts) (refs : List Reference) (begins : List LinkUnit) (rows : List (List ℕ)) → IsGraphOf ns refs rows → (n : ℕ) → IsReached (Contains (found (unit_number_if ns) begins)) (HasEdge rows) n → ReachedAt ns refs begins n
reached_only ns refs begins rows g n r =
    IsReached-closed (Contains (found (unit_number_if ns) begins)) (HasEdge rows) (ReachedAt ns refs begins)
    (λ x m.
    let u = Contains-found_from (unit_number_if ns) begins x m in
    let p = number_if_parts ns u.0 x u.2 in
    record {
      unit = u.0;
      there = p.0;
      number = p.1;
      reached = IsReached-root (Begins ns begins) (Leads ns refs) u.0 (record { unit = p.0; listed = u.1 });
    })
    (λ a b p h.
    let m = (g a b).0 h in
    let q = Contains-found_from (edge_of ns) refs (record { from = a; to = b }) m in
    let parts = edge_of-from ns q.0 (record { from = a; to = b }) q.2 in
    let from = number_if_parts ns q.0.from a parts.0 in
    let to = number_if_parts ns q.0.to b parts.1 in
    let same : p.unit ≡ q.0.from = unit_number-injective ns p.unit q.0.from p.there from.0 (p.number ∙ sym from.1) in
    record {
      unit = q.0.to;
      there = to.0;
      number = to.1;
      reached = IsReached-step (Begins ns begins) (Leads ns refs) p.unit q.0.to p.reached
          (record { from = p.there; to = to.0; listed = subst (λ (w : LinkUnit). Contains refs (record { from = w; to = q.0.to })) (sym same) q.1 });
    })
    n r

pub reached_every : (ns : List UnitCounts) (refs : List Reference) (begins : List LinkUnit) (rows : List (List ℕ)) → IsGraphOf ns refs rows → (u : LinkUnit) → IsReached (Begins ns begins) (Leads ns refs) u → IsReached (Contains (found (unit_number_if ns) begins)) (HasEdge rows) (unit_number ns u)
reached_every ns refs begins rows g u r =
    IsReached-closed (Begins ns begins) (Leads ns refs) (λ v. IsReached (Contains (found (unit_number_if ns) begins)) (HasEdge rows) (unit_number ns v))
    (λ v b. IsReached-root (Contains (found (unit_number_if ns) begins)) (HasEdge rows) (unit_number ns v) (Contains-found (unit_number_if ns) begins v (unit_number ns v) b.listed (number_if_found ns v b.unit)))
    (λ v w p l.
    IsReached-step (Contains (found (unit_number_if ns) begins)) (HasEdge rows) (unit_number ns v) (unit_number ns w) p
    ((g (unit_number ns v) (unit_number ns w)).1
    (Contains-found (edge_of ns) refs (record { from = v; to = w }) (record { from = unit_number ns v; to = unit_number ns w }) l.listed (edge_of-is ns v w l.from l.to))))
    u r

pub UnitsReached-from : (ns : List UnitCounts) (refs : List Reference) (begins : List LinkUnit) (rows : List (List ℕ)) (marks : List Bool) → IsGraphOf ns refs rows → MarksReached rows (found (unit_number_if ns) begins) marks → UnitsReached ns refs begins marks
UnitsReached-from ns refs begins rows marks g reached = record {
  only = λ u there m.
      let r = reached_only ns refs begins rows g (unit_number ns u) (reached.only (unit_number ns u) m) in
      subst (IsReached (Begins ns begins) (Leads ns refs)) (unit_number-injective ns r.unit u r.there there r.number) r.reached;
  every = λ u there r. reached.every (unit_number ns u) (reached_every ns refs begins rows g u r);
}
