-- What a walk knows: the marks, and the visits in order.
use Rattle.std.proofs.Common.{◌≡◌, ◌⊎◌, ℕ, zero, suc, ◌+◌, ◌<◌, ◌≤◌, Bool, true, false, cond, List, [], ◌∷◌, ◌++◌, length, get_or, set, replicate, inl, inr, refl, ap, sym, ◌∙◌, subst, arith, Option, Some, None, All, Contains, slice_get, below_more}
use Rattle.std.specs.Option.{option_map}
use Rattle.std.proofs.lemmas.Bool.{cases_lt, cases_Bool, false≢true}
use Rattle.std.proofs.lemmas.Option.{slice_get_within, same_Some}
use Rattle.std.proofs.lemmas.List.{length-set, length-replicate, length_push, set-get_or, get_or-set_same}
use Rattle.std.proofs.lemmas.List.Elements.{All-weaker, All-contains, All-from_get_or, Contains-get_or}
use Rattle.std.proofs.lemmas.List.Sums.{sum_by-set, sum_by-cons, count_by-le-length}
use Rattle.wl_lists.proofs.Found.{map_some}
use Rattle.wl_lists.proofs.Places.{get_in_front}
use Rattle.wl_reach.proofs.ChainLaws.{slice_get_push}
use Rattle.wl_reach.specs.Graph.{HasEdge}
use Rattle.wl_reach.specs.Marks.{IsMarked, count_set}
use Rattle.wl_why.specs.Walk.{node_at, IsVisited, LeadsFrom, IsWalk, IsInOrder, with_visit}
use Rattle.wl_why.specs.declared.walk.Visit.{Visit}
use Rattle.wl_why.proofs.MarkedLaws.{set_old, set_cases, none_marked}

-- ---- one more item

pub push_cases : {X : Type 0} (xs : List X) (y x : X) (k : ℕ) → slice_get (xs ++ y ∷ []) k ≡ Some x → (slice_get xs k ≡ Some x) ⊎ ((k ≡ length xs) × (y ≡ x))
push_cases [] y x zero e = inr (refl, same_Some y x e)
push_cases [] y x (suc k) e = absurd (cc)
push_cases (z ∷ xs) y x zero e = inl e
push_cases (z ∷ xs) y x (suc k) e = elim (push_cases xs y x k e) [ inl old ↦ inl old | inr p ↦ inr (ap suc p.0, p.1) ]

-- ---- visits

pub visit_at : (visits : List Visit) (place n : ℕ) → node_at visits place ≡ Some n → (v : Visit) × (slice_get visits place ≡ Some v) × (v.node ≡ n)
visit_at visits place n e = map_some (λ (v : Visit). v.node) (slice_get visits place) n e

pub node_here : (visits : List Visit) (place : ℕ) (v : Visit) → slice_get visits place ≡ Some v → node_at visits place ≡ Some v.node
node_here visits place v e = ap (option_map (λ (w : Visit). w.node)) e

pub node_old : (visits : List Visit) (v : Visit) (place n : ℕ) → node_at visits place ≡ Some n → node_at (visits ++ v ∷ []) place ≡ Some n
node_old visits v place n e =
    let h = visit_at visits place n e in
    node_here (visits ++ v ∷ []) place h.0 (get_in_front visits (v ∷ []) place h.0 h.1) ∙ ap Some h.2

pub node_cases : (visits : List Visit) (v : Visit) (place n : ℕ) → node_at (visits ++ v ∷ []) place ≡ Some n → (node_at visits place ≡ Some n) ⊎ ((place ≡ length visits) × (v.node ≡ n))
node_cases visits v place n e =
    let h = visit_at (visits ++ v ∷ []) place n e in
    elim (push_cases visits v h.0 place h.1) [
      | inl old ↦ inl (node_here visits place h.0 old ∙ ap Some h.2)
      | inr p ↦ inr (p.0, ap (λ (w : Visit). w.node) p.1 ∙ h.2)
    ]

pub visited_old : (visits : List Visit) (v : Visit) (n : ℕ) → IsVisited visits n → IsVisited (visits ++ v ∷ []) n
visited_old visits v n m = (m.0, node_old visits v m.0 n m.1)

pub visited_new : (visits : List Visit) (v : Visit) → IsVisited (visits ++ v ∷ []) v.node
visited_new visits v = (length visits, node_here (visits ++ v ∷ []) (length visits) v (slice_get_push visits v))

pub leads_old : (graph : List (List ℕ)) (visits : List Visit) (v : Visit) (from place node : ℕ) → LeadsFrom graph visits from place node → LeadsFrom graph (visits ++ v ∷ []) from place node
leads_old graph visits v from place node l = record { before = l.before; other = l.other; at = node_old visits v from l.other l.at; edge = l.edge }

-- ---- the walk

-- the marks are those of the visited nodes, and each visit is right
pub record Visiting (graph : List (List ℕ)) (roots : List ℕ) (marks : List Bool) (visits : List Visit) : Type 0 where
  pub size : length marks ≡ length graph
  pub count : count_set marks ≡ length visits
  pub marked : (place node : ℕ) → node_at visits place ≡ Some node → IsMarked marks node
  pub noted : (node : ℕ) → IsMarked marks node → IsVisited visits node
  pub nodes : (place node : ℕ) → node_at visits place ≡ Some node → node < length graph
  pub once : (j k node : ℕ) → node_at visits j ≡ Some node → node_at visits k ≡ Some node → j ≡ k
  pub root : (place : ℕ) (v : Visit) → slice_get visits place ≡ Some v → v.from ≡ None → Contains roots v.node
  pub from : (place from : ℕ) (v : Visit) → slice_get visits place ≡ Some v → v.from ≡ Some from → LeadsFrom graph visits from place v.node

-- a visit that may come next
pub record MayVisit (graph : List (List ℕ)) (roots : List ℕ) (visits : List Visit) (v : Visit) : Type 0 where
  pub node : v.node < length graph
  pub root : v.from ≡ None → Contains roots v.node
  pub from : (from : ℕ) → v.from ≡ Some from → LeadsFrom graph visits from (length visits) v.node

pub count_more : (marks : List Bool) (k : ℕ) → k < length marks → get_or marks k false ≡ false → count_set (set marks k true) ≡ count_set marks + 1
count_more marks k lt unmarked =
    let one = sum_by-set (λ (b : Bool). cond b 1 0) marks k true false lt in
    let zeros : cond {A = ℕ} (get_or marks k false) 1 0 ≡ 0 = ap (λ (b : Bool). cond {A = ℕ} b 1 0) unmarked in
    omega (arith, one, zeros)

pub Visiting-more : (graph : List (List ℕ)) (roots : List ℕ) (marks : List Bool) (visits : List Visit) (v : Visit) → Visiting graph roots marks visits → MayVisit graph roots visits v → get_or marks v.node false ≡ false → Visiting graph roots (set marks v.node true) (visits ++ v ∷ [])
Visiting-more graph roots marks visits v s may unmarked =
    let inside : v.node < length marks = rw s.size may.node in
    let fresh : (place : ℕ) → node_at visits place ≡ Some v.node → ⊥ = λ place at. false≢true (sym unmarked ∙ s.marked place v.node at) in
    record {
      size = length-set marks v.node true ∙ s.size;
      count = omega (arith, count_more marks v.node inside unmarked, s.count, length_push visits v);
      marked = λ place node at.
          elim (node_cases visits v place node at) [
            | inl old ↦ set_old marks v.node node (s.marked place node old)
            | inr p ↦ rw (← p.1) (get_or-set_same marks v.node true false inside)
          ];
      noted = λ node m.
          elim (set_cases marks v.node node m) [
            | inl old ↦ visited_old visits v node (s.noted node old)
            | inr e ↦ rw (← e) (visited_new visits v)
          ];
      nodes = λ place node at. elim (node_cases visits v place node at) [ inl old ↦ s.nodes place node old | inr p ↦ rw (← p.1) may.node ];
      once = λ j k node a b.
          elim (node_cases visits v j node a) [
            | inl old ↦
                elim (node_cases visits v k node b) [
                  | inl other ↦ s.once j k node old other
                  | inr q ↦ absurd (fresh j (old ∙ ap Some (sym q.1)))
                ]
            | inr p ↦
                elim (node_cases visits v k node b) [
                  | inl other ↦ absurd (fresh k (other ∙ ap Some (sym p.1)))
                  | inr q ↦ p.0 ∙ sym q.0
                ]
          ];
      root = λ place w at none.
          elim (push_cases visits v w place at) [
            | inl old ↦ s.root place w old none
            | inr p ↦ subst (λ (x : Visit). Contains roots x.node) p.1 (may.root (ap (λ (x : Visit). x.from) p.1 ∙ none))
          ];
      from = λ place from w at comes.
          elim (push_cases visits v w place at) [
            | inl old ↦ leads_old graph visits v from place w.node (s.from place from w old comes)
            | inr p ↦
                let new : LeadsFrom graph visits from (length visits) v.node = may.from from (ap (λ (x : Visit). x.from) p.1 ∙ comes) in
                let there : LeadsFrom graph (visits ++ v ∷ []) from (length visits) v.node = leads_old graph visits v from (length visits) v.node new in
                rw p.0 (subst (λ (x : Visit). LeadsFrom graph (visits ++ v ∷ []) from (length visits) x.node) p.1 there)
          ];
    }

-- a mark that stands already changes nothing
pub set_marked : (marks : List Bool) (k : ℕ) → IsMarked marks k → set marks k true ≡ marks
set_marked marks k h = rw h at (set-get_or marks k false)

pub Visiting-visit : (graph : List (List ℕ)) (roots : List ℕ) (marks : List Bool) (visits : List Visit) (v : Visit) → Visiting graph roots marks visits → MayVisit graph roots visits v → Visiting graph roots (set marks v.node true) (with_visit marks visits v)
Visiting-visit graph roots marks visits v s may =
    elim (cases_Bool (get_or marks v.node false)) [
      | inl e ↦ rw (e, set_marked marks v.node e) s
      | inr e ↦ rw e (Visiting-more graph roots marks visits v s may e)
    ]

pub length-with_visit : (marks : List Bool) (visits : List Visit) (v : Visit) → length visits ≤ length (with_visit marks visits v)
length-with_visit marks visits v = elim (cases_Bool (get_or marks v.node false)) [ inl e ↦ rw e (omega arith) | inr e ↦ rw e (omega (arith, length_push visits v)) ]

pub node-with_visit : (marks : List Bool) (visits : List Visit) (v : Visit) (place n : ℕ) → node_at visits place ≡ Some n → node_at (with_visit marks visits v) place ≡ Some n
node-with_visit marks visits v place n at = elim (cases_Bool (get_or marks v.node false)) [ inl e ↦ rw e at | inr e ↦ rw e (node_old visits v place n at) ]

pub node_back : (marks : List Bool) (visits : List Visit) (v : Visit) (place n : ℕ) → place < length visits → node_at (with_visit marks visits v) place ≡ Some n → node_at visits place ≡ Some n
node_back marks visits v place n lt at =
    elim (cases_Bool (get_or marks v.node false)) [
      | inl e ↦ rw e at at
      | inr e ↦
          let more : node_at (visits ++ v ∷ []) place ≡ Some n = rw e at at in
          elim (node_cases visits v place n more) [ inl old ↦ old | inr p ↦ absurd (omega (arith, p.0)) ]
    ]

pub Visiting-bound : (graph : List (List ℕ)) (roots : List ℕ) (marks : List Bool) (visits : List Visit) → Visiting graph roots marks visits → length visits ≤ length graph
Visiting-bound graph roots marks visits s = omega (arith, s.count, s.size, count_by-le-length (λ (b : Bool). b) marks)

-- ---- roots

-- the first roots are marked
pub record Rooted (graph : List (List ℕ)) (roots : List ℕ) (marks : List Bool) (visits : List Visit) (n : ℕ) : Type 0 where
  pub visiting : Visiting graph roots marks visits
  pub marked : (k : ℕ) → k < n → IsMarked marks (get_or roots k 0)

pub count_none : (n : ℕ) → count_set (replicate n false) ≡ 0
count_none zero = refl
count_none (suc n) = omega (arith, count_none n, sum_by-cons (λ (b : Bool). cond b 1 0) false (replicate n false))

pub Rooted-none : (graph : List (List ℕ)) (roots : List ℕ) (marks : List Bool) → marks ≡ replicate (length graph) false → Rooted graph roots marks [] 0
Rooted-none graph roots marks e = record {
  visiting = record {
    size = ap length e ∙ length-replicate (length graph) false;
    count = ap count_set e ∙ count_none (length graph);
    marked = λ place node at. absurd (cc);
    noted = λ node m. absurd (none_marked (length graph) node (rw e at m));
    nodes = λ place node at. absurd (cc);
    once = λ j k node a b. absurd (cc);
    root = λ place v at. absurd (cc);
    from = λ place from v at. absurd (cc);
  };
  marked = λ k below. absurd (omega arith);
}

-- the visit of a root
abbrev pub root_visit : ℕ → Visit
root_visit node = record { node = node; from = None }

pub Rooted-more : (graph : List (List ℕ)) (roots : List ℕ) (marks : List Bool) (visits : List Visit) (n : ℕ) → All (λ r. r < length graph) roots → Rooted graph roots marks visits n → n < length roots → Rooted graph roots (set marks (get_or roots n 0) true) (with_visit marks visits (root_visit (get_or roots n 0))) (n + 1)
Rooted-more graph roots marks visits n small r lt =
    let node : ℕ = get_or roots n 0 in
    let v : Visit = root_visit node in
    let inside : node < length marks = rw r.visiting.size (small n 0 lt) in
    let may : MayVisit graph roots visits v = record { node = small n 0 lt; root = λ none. Contains-get_or roots n 0 lt; from = λ from e. absurd (cc) } in
    record {
      visiting = Visiting-visit graph roots marks visits v r.visiting may;
      marked = below_more (λ k. IsMarked (set marks node true) (get_or roots k 0)) n (λ k below. set_old marks node (get_or roots k 0) (r.marked k below)) (get_or-set_same marks node true false inside);
    }

-- ---- one node after the other

-- the first visits are of nodes whose successors are marked
pub record Progress (graph : List (List ℕ)) (roots : List ℕ) (marks : List Bool) (visits : List Visit) (done : ℕ) : Type 0 where
  pub visiting : Visiting graph roots marks visits
  pub rooted : All (IsMarked marks) roots
  pub within : done ≤ length visits
  pub closed : (place a b : ℕ) → place < done → node_at visits place ≡ Some a → HasEdge graph a b → IsMarked marks b

pub Rooted-all : (graph : List (List ℕ)) (roots : List ℕ) (marks : List Bool) (visits : List Visit) (n : ℕ) → Rooted graph roots marks visits n → length roots ≤ n → Progress graph roots marks visits 0
Rooted-all graph roots marks visits n r le = record {
  visiting = r.visiting;
  rooted = All-from_get_or (IsMarked marks) roots 0 (λ k lt. r.marked k (omega arith));
  within = omega arith;
  closed = λ place a b below. absurd (omega arith);
}

-- the first successors of the node at hand are marked
pub record Heads (graph : List (List ℕ)) (roots : List ℕ) (marks : List Bool) (visits : List Visit) (done node : ℕ) (heads : List ℕ) (n : ℕ) : Type 0 where
  pub progress : Progress graph roots marks visits done
  pub here : done < length visits
  pub at : node_at visits done ≡ Some node
  pub row : heads ≡ get_or graph node []
  pub nodes : All (λ t. t < length graph) heads
  pub marked : (k : ℕ) → k < n → IsMarked marks (get_or heads k 0)

-- the visit of a successor
abbrev pub further_visit : ℕ → ℕ → Visit
further_visit node done = record { node = node; from = Some done }

pub Heads-more : (graph : List (List ℕ)) (roots : List ℕ) (marks : List Bool) (visits : List Visit) (done node : ℕ) (heads : List ℕ) (n : ℕ) → Heads graph roots marks visits done node heads n → n < length heads → Heads graph roots (set marks (get_or heads n 0) true) (with_visit marks visits (further_visit (get_or heads n 0) done)) done node heads (n + 1)
Heads-more graph roots marks visits done node heads n h lt =
    let head : ℕ = get_or heads n 0 in
    let v : Visit = further_visit head done in
    let s = h.progress.visiting in
    let inside : head < length graph = h.nodes n 0 lt in
    let inside_marks : head < length marks = rw s.size inside in
    let edge : HasEdge graph node head = subst (λ (l : List ℕ). Contains l (get_or heads n 0)) h.row (Contains-get_or heads n 0 lt) in
    let leads : LeadsFrom graph visits done (length visits) head = record { before = h.here; other = node; at = h.at; edge = edge } in
    let may : MayVisit graph roots visits v = record {
      node = inside;
      root = λ none. absurd (cc);
      from = λ from e. subst (λ (j : ℕ). LeadsFrom graph visits j (length visits) head) (same_Some done from e) leads;
    } in
    record {
      progress = record {
        visiting = Visiting-visit graph roots marks visits v s may;
        rooted = All-weaker (IsMarked marks) (IsMarked (set marks head true)) (λ w m. set_old marks head w m) roots h.progress.rooted;
        within = omega (arith, h.progress.within, length-with_visit marks visits v);
        closed = λ place a b below at e.
            let inside' : place < length visits = omega (arith, h.progress.within) in
            set_old marks head b (h.progress.closed place a b below (node_back marks visits v place a inside' at) e);
      };
      here = omega (arith, h.here, length-with_visit marks visits v);
      at = node-with_visit marks visits v done node h.at;
      row = h.row;
      nodes = h.nodes;
      marked = below_more (λ k. IsMarked (set marks head true) (get_or heads k 0)) n (λ k below. set_old marks head (get_or heads k 0) (h.marked k below)) (get_or-set_same marks head true false inside_marks);
    }

pub Heads-all : (graph : List (List ℕ)) (roots : List ℕ) (marks : List Bool) (visits : List Visit) (done node : ℕ) (heads : List ℕ) (n : ℕ) → Heads graph roots marks visits done node heads n → length heads ≤ n → Progress graph roots marks visits (done + 1)
Heads-all graph roots marks visits done node heads n h le = record {
  visiting = h.progress.visiting;
  rooted = h.progress.rooted;
  within = omega (arith, h.here);
  closed = λ place a b below at e.
      elim (cases_lt place done) [
        | inl less ↦ h.progress.closed place a b less at e
        | inr more ↦
            let here : place ≡ done = omega arith in
            let same : node ≡ a = same_Some node a (sym h.at ∙ (ap (node_at visits) (sym here) ∙ at)) in
            let row : get_or graph a [] ≡ heads = ap (λ (m : ℕ). get_or graph m []) (sym same) ∙ sym h.row in
            All-contains (IsMarked marks) heads b (All-from_get_or (IsMarked marks) heads 0 (λ k lt. h.marked k (omega arith))) (subst (λ (l : List ℕ). Contains l b) row e)
      ];
}

pub Heads-none : (graph : List (List ℕ)) (roots : List ℕ) (marks : List Bool) (visits : List Visit) (done : ℕ) (v : Visit) (heads : List ℕ) → Progress graph roots marks visits done → slice_get visits done ≡ Some v → heads ≡ get_or graph v.node [] → All (λ t. t < length graph) heads → Heads graph roots marks visits done v.node heads 0
Heads-none graph roots marks visits done v heads p at row nodes = record {
  progress = p;
  here = slice_get_within visits done v at;
  at = node_here visits done v at;
  row = row;
  nodes = nodes;
  marked = λ k below. absurd (omega arith);
}

-- at the end all is visited
pub walk_is : (graph : List (List ℕ)) (roots : List ℕ) (marks : List Bool) (visits : List Visit) (done : ℕ) → Progress graph roots marks visits done → length visits ≤ done → IsWalk graph roots visits
walk_is graph roots marks visits done p le =
    let s = p.visiting in
    record {
      nodes = s.nodes;
      once = s.once;
      root = s.root;
      from = s.from;
      roots = λ node m. s.noted node (All-contains (IsMarked marks) roots node p.rooted m);
      closed = λ a b m e.
          let v = visit_at visits m.0 a m.1 in
          let lt : m.0 < done = omega (arith, slice_get_within visits m.0 v.0 v.1) in
          s.noted b (p.closed m.0 a b lt m.1 e);
    }

-- ---- the order of the visits

-- all visits come from none
abbrev pub ArePlain : List Visit → Type 0
ArePlain visits = (place : ℕ) (v : Visit) → slice_get visits place ≡ Some v → v.from ≡ None

pub plain_none : ArePlain []
plain_none place v at = absurd (cc)

pub plain_more : (marks : List Bool) (visits : List Visit) (node : ℕ) → ArePlain visits → ArePlain (with_visit marks visits (root_visit node))
plain_more marks visits node plain =
    elim (cases_Bool (get_or marks node false)) [
      | inl e ↦ rw e plain
      | inr e ↦ rw e (λ place v at. elim (push_cases visits (root_visit node) v place at) [ inl old ↦ plain place v old | inr p ↦ ap (λ (w : Visit). w.from) (sym p.1) ])
    ]

-- the visits are in order, and come from the node at hand at the latest
pub record InOrderTo (graph : List (List ℕ)) (roots : List ℕ) (visits : List Visit) (done : ℕ) : Type 0 where
  pub order : IsInOrder graph roots visits
  pub upto : (place from : ℕ) (v : Visit) → slice_get visits place ≡ Some v → v.from ≡ Some from → from ≤ done

pub none_some : {X : Type 0} (o : Option X) (x : X) → o ≡ None → o ≡ Some x → ⊥
none_some o x a b = let h : None ≡ Some x = sym a ∙ b in absurd (cc)

pub order_plain : (graph : List (List ℕ)) (roots : List ℕ) (visits : List Visit) → ArePlain visits → InOrderTo graph roots visits 0
order_plain graph roots visits plain = record {
  order = record {
    root = λ place v at m. plain place v at;
    first = λ place from other node v at comes. absurd (none_some v.from from (plain place v at) comes);
    ahead = λ j k v w lt at there none. plain j v at;
    order = λ j k a b v w lt at there comes. absurd (none_some v.from a (plain j v at) comes);
  };
  upto = λ place from v at comes. absurd (none_some v.from from (plain place v at) comes);
}

pub order_done : (graph : List (List ℕ)) (roots : List ℕ) (visits : List Visit) (done : ℕ) → InOrderTo graph roots visits done → InOrderTo graph roots visits (done + 1)
order_done graph roots visits done o = record { order = o.order; upto = λ place from v at comes. omega (arith, o.upto place from v at comes) }

pub order_push : (graph : List (List ℕ)) (roots : List ℕ) (marks : List Bool) (visits : List Visit) (done head : ℕ) → Progress graph roots marks visits done → get_or marks head false ≡ false → InOrderTo graph roots visits done → InOrderTo graph roots (visits ++ further_visit head done ∷ []) done
order_push graph roots marks visits done head p unmarked o =
    let v : Visit = further_visit head done in
    record {
      order = record {
        root = λ place w at m.
            elim (push_cases visits v w place at) [
              | inl old ↦ o.order.root place w old m
              | inr q ↦
                  let root : Contains roots head = subst (λ (x : Visit). Contains roots x.node) (sym q.1) m in
                  absurd (false≢true (sym unmarked ∙ All-contains (IsMarked marks) roots head p.rooted root))
            ];
        first = λ place from other node w at comes there edge.
            elim (push_cases visits v w place at) [
              | inl old ↦
                  elim (node_cases visits v other node there) [
                    | inl here ↦ o.order.first place from other node w old comes here edge
                    | inr q ↦ omega (arith, q.0, (p.visiting.from place from w old comes).before, slice_get_within visits place w old)
                  ]
              | inr q ↦
                  let is : done ≡ from = same_Some done from (ap (λ (x : Visit). x.from) q.1 ∙ comes) in
                  let to : HasEdge graph node head = subst (λ (x : Visit). HasEdge graph node x.node) (sym q.1) edge in
                  elim (node_cases visits v other node there) [
                    | inr r ↦ omega (arith, r.0, is, p.within)
                    | inl here ↦
                        elim (cases_lt other done) [
                          | inl less ↦ absurd (false≢true (sym unmarked ∙ p.closed other node head less here to))
                          | inr le ↦ omega (arith, is, le)
                        ]
                  ]
            ];
        ahead = λ j k w x lt at there none.
            elim (push_cases visits v x k there) [
              | inr q ↦ absurd (none_some x.from done none (ap (λ (y : Visit). y.from) (sym q.1)))
              | inl old ↦
                  elim (push_cases visits v w j at) [
                    | inl here ↦ o.order.ahead j k w x lt here old none
                    | inr q ↦ absurd (omega (arith, lt, q.0, slice_get_within visits k x old))
                  ]
            ];
        order = λ j k a b w x lt at there comes goes.
            elim (push_cases visits v w j at) [
              | inr q ↦
                  elim (push_cases visits v x k there) [
                    | inl old ↦ absurd (omega (arith, lt, q.0, slice_get_within visits k x old))
                    | inr r ↦ absurd (omega (arith, lt, q.0, r.0))
                  ]
              | inl here ↦
                  elim (push_cases visits v x k there) [
                    | inl old ↦ o.order.order j k a b w x lt here old comes goes
                    | inr r ↦
                        let is : done ≡ b = same_Some done b (ap (λ (y : Visit). y.from) r.1 ∙ goes) in
                        omega (arith, is, o.upto j a w here comes)
                  ]
            ];
      };
      upto = λ place from w at comes.
          elim (push_cases visits v w place at) [
            | inl old ↦ o.upto place from w old comes
            | inr q ↦ let is : done ≡ from = same_Some done from (ap (λ (x : Visit). x.from) q.1 ∙ comes) in omega (arith, is)
          ];
    }

pub order_more : (graph : List (List ℕ)) (roots : List ℕ) (marks : List Bool) (visits : List Visit) (done head : ℕ) → Progress graph roots marks visits done → InOrderTo graph roots visits done → InOrderTo graph roots (with_visit marks visits (further_visit head done)) done
order_more graph roots marks visits done head p o =
    elim (cases_Bool (get_or marks head false)) [
      | inl e ↦ rw e o
      | inr e ↦ rw e (order_push graph roots marks visits done head p e o)
    ]
