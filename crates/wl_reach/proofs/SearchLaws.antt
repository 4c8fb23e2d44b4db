-- What a search knows: the marks, and the marked nodes in the order in which they were marked.
use Rattle.std.proofs.Common.{◌≡◌, ℕ, zero, suc, ◌+◌, ◌<◌, ◌≤◌, ◌⊎◌, inl, inr, Bool, true, false, List, [], ◌∷◌, ◌++◌, length, get_or, set, take, refl, ap, sym, ◌∙◌, arith, Contains, All, get_or-set_same, get_or-set_other, sum_by, below_more, replicate, subst}
use Rattle.std.proofs.lemmas.Bool.{false≢true, cases_eq, cases_Bool, cases_lt}
use Rattle.std.proofs.lemmas.List.{length-set, set-get_or, length-replicate, get_or-replicate, take-append-le, get_or_append_left, get_or_past, length_push}
use Rattle.std.proofs.lemmas.List.Elements.{All-nil, All-push, All-weaker, All-contains, All-from_get_or, Contains-get_or, Contains-push, Contains-append_left}
use Rattle.std.proofs.lemmas.List.Sums.{sum_by-cons, sum_by_push, sum_by_more, sum_by_more_le}
use Rattle.std.proofs.lemmas.Grind.{common_steps}
use Rattle.wl_reach.specs.Graph.{HasEdge}
use Rattle.wl_reach.specs.Marks.{IsMarked}
use Rattle.wl_reach.specs.Search.{IsReached, MarksReached, steps_of, with_mark}
use Rattle.wl_reach.proofs.ChainLaws.{IsReached-root, IsReached-step, IsReached-closed}

pub IsMarked-set_same : (marks : List Bool) (v : ℕ) → v < length marks → IsMarked (set marks v true) v
IsMarked-set_same marks v lt = get_or-set_same marks v true false lt

pub IsMarked-set : (marks : List Bool) (v w : ℕ) → v < length marks → IsMarked marks w → IsMarked (set marks v true) w
IsMarked-set marks v w lt h = elim (cases_eq w v) [ inl e ↦ rw e (IsMarked-set_same marks v lt) | inr n ↦ get_or-set_other marks v w true false n ∙ h ]

pub IsMarked-set_cases : (marks : List Bool) (v w : ℕ) → IsMarked (set marks v true) w → IsMarked marks w ⊎ (w ≡ v)
IsMarked-set_cases marks v w h = elim (cases_eq w v) [ inl e ↦ inr e | inr n ↦ inl (sym (get_or-set_other marks v w true false n) ∙ h) ]

-- ---- what the marked nodes cost: a step each, and one for each edge from them

abbrev pub cost : List (List ℕ) → ℕ → ℕ
cost graph v = 1 + length (get_or graph v [])

pub steps_of-set : (marks : List Bool) (rows : List (List ℕ)) (v : ℕ) → v < length marks → v < length rows → get_or marks v false ≡ false → steps_of (set marks v true) rows ≡ steps_of marks rows + cost rows v
steps_of-set [] rows v inside lt unmarked = absurd (omega arith)
steps_of-set (m ∷ marks) [] v inside lt unmarked = absurd (omega arith)
steps_of-set (m ∷ marks) (r ∷ rows) zero inside lt unmarked = rw unmarked (omega arith)
steps_of-set (m ∷ marks) (r ∷ rows) (suc v) inside lt unmarked = omega (arith, steps_of-set marks rows v (omega arith) (omega arith) unmarked)

pub steps_of-le : (marks : List Bool) (rows : List (List ℕ)) → steps_of marks rows ≤ length rows + sum_by length rows
steps_of-le [] rows = omega arith
steps_of-le (m ∷ marks) [] = omega arith
steps_of-le (true ∷ marks) (r ∷ rows) = omega (arith, steps_of-le marks rows, sum_by-cons (λ (x : List ℕ). length x) r rows)
steps_of-le (false ∷ marks) (r ∷ rows) = omega (arith, steps_of-le marks rows, sum_by-cons (λ (x : List ℕ). length x) r rows)

pub steps_of-none : (n : ℕ) (rows : List (List ℕ)) → steps_of (replicate n false) rows ≡ 0
steps_of-none zero rows = refl
steps_of-none (suc n) [] = refl
steps_of-none (suc n) (r ∷ rows) = omega (arith, steps_of-none n rows)

pub length-le-cost : (graph : List (List ℕ)) (order : List ℕ) → length order ≤ sum_by (cost graph) order
length-le-cost graph [] = omega arith
length-le-cost graph (v ∷ order) = omega (arith, length-le-cost graph order, sum_by-cons (cost graph) v order)

-- ---- the search

pub record Search (graph : List (List ℕ)) (roots : List ℕ) (marks : List Bool) (order : List ℕ) : Type 0 where
  pub size : length marks ≡ length graph
  pub marked : All (IsMarked marks) order
  pub noted : (v : ℕ) → IsMarked marks v → Contains order v
  pub reached : All (IsReached (Contains roots) (HasEdge graph)) order
  pub spent : sum_by (cost graph) order ≡ steps_of marks graph

-- a mark that stands already changes nothing
pub set_marked : (marks : List Bool) (v : ℕ) → IsMarked marks v → set marks v true ≡ marks
set_marked marks v h = rw h at (set-get_or marks v false)

pub Search-note : (graph : List (List ℕ)) (roots : List ℕ) (marks : List Bool) (order : List ℕ) (v : ℕ) → Search graph roots marks order → v < length graph → IsReached (Contains roots) (HasEdge graph) v → get_or marks v false ≡ false → Search graph roots (set marks v true) (order ++ v ∷ [])
Search-note graph roots marks order v s lt r unmarked =
    let inside : v < length marks = rw s.size lt in
    record {
      size = length-set marks v true ∙ s.size;
      marked = All-push (IsMarked (set marks v true)) order v (All-weaker (IsMarked marks) (IsMarked (set marks v true)) (λ w m. IsMarked-set marks v w inside m) order s.marked) (IsMarked-set_same marks v inside);
      noted = λ w m. elim (IsMarked-set_cases marks v w m) [ inl old ↦ Contains-append_left order (v ∷ []) w (s.noted w old) | inr e ↦ rw e (Contains-push order v) ];
      reached = All-push (IsReached (Contains roots) (HasEdge graph)) order v s.reached r;
      spent = omega (arith, s.spent, steps_of-set marks graph v inside lt unmarked, sum_by_push (cost graph) order v);
    }

pub Search-mark : (graph : List (List ℕ)) (roots : List ℕ) (marks : List Bool) (order : List ℕ) (v : ℕ) → Search graph roots marks order → v < length graph → IsReached (Contains roots) (HasEdge graph) v → Search graph roots (set marks v true) (with_mark marks order v)
Search-mark graph roots marks order v s lt r =
    elim (cases_Bool (get_or marks v false)) [
      | inl e ↦ rw (e, set_marked marks v e) s
      | inr e ↦ rw e (Search-note graph roots marks order v s lt r e)
    ]

pub Search-spent : (graph : List (List ℕ)) (roots : List ℕ) (marks : List Bool) (order : List ℕ) → Search graph roots marks order → sum_by (cost graph) order ≤ length graph + sum_by length graph
Search-spent graph roots marks order s = omega (arith, s.spent, steps_of-le marks graph)

pub Search-bound : (graph : List (List ℕ)) (roots : List ℕ) (marks : List Bool) (order : List ℕ) → Search graph roots marks order → length order ≤ length graph + sum_by length graph
Search-bound graph roots marks order s = omega (arith, Search-spent graph roots marks order s, length-le-cost graph order)

-- the first nodes in order have marked successors
pub record Progress (graph : List (List ℕ)) (roots : List ℕ) (marks : List Bool) (order : List ℕ) (done : ℕ) : Type 0 where
  pub search : Search graph roots marks order
  pub rooted : All (IsMarked marks) roots
  pub within : done ≤ length order
  pub closed : (k : ℕ) → k < done → (w : ℕ) → HasEdge graph (get_or order k 0) w → IsMarked marks w

pub get_or-with_mark : (marks : List Bool) (order : List ℕ) (v k : ℕ) → k < length order → get_or (with_mark marks order v) k 0 ≡ get_or order k 0
get_or-with_mark marks order v k lt = elim (cases_Bool (get_or marks v false)) [ inl e ↦ rw e refl | inr e ↦ rw e (get_or_append_left order (v ∷ []) 0 k lt) ]

pub length-with_mark : (marks : List Bool) (order : List ℕ) (v : ℕ) → length order ≤ length (with_mark marks order v)
length-with_mark marks order v = elim (cases_Bool (get_or marks v false)) [ inl e ↦ rw e (omega arith) | inr e ↦ rw e (omega (arith, length_push order v)) ]

pub take-with_mark : (marks : List Bool) (order : List ℕ) (v n : ℕ) → n ≤ length order → take n (with_mark marks order v) ≡ take n order
take-with_mark marks order v n le = elim (cases_Bool (get_or marks v false)) [ inl e ↦ rw e refl | inr e ↦ rw e (take-append-le n order (v ∷ []) le) ]

pub Progress-mark : (graph : List (List ℕ)) (roots : List ℕ) (marks : List Bool) (order : List ℕ) (done v : ℕ) → Progress graph roots marks order done → v < length graph → IsReached (Contains roots) (HasEdge graph) v → Progress graph roots (set marks v true) (with_mark marks order v) done
Progress-mark graph roots marks order done v p lt r =
    let inside : v < length marks = rw p.search.size lt in
    record {
      search = Search-mark graph roots marks order v p.search lt r;
      rooted = All-weaker (IsMarked marks) (IsMarked (set marks v true)) (λ w m. IsMarked-set marks v w inside m) roots p.rooted;
      within = omega (arith, p.within, length-with_mark marks order v);
      closed = λ k below w edge.
          let within : k < length order = omega (arith, p.within) in
          IsMarked-set marks v w inside (p.closed k below w (rw (get_or-with_mark marks order v k within) at edge));
    }

pub Progress-done : (graph : List (List ℕ)) (roots : List ℕ) (marks : List Bool) (order : List ℕ) (done : ℕ) → Progress graph roots marks order done → done < length order → ((w : ℕ) → HasEdge graph (get_or order done 0) w → IsMarked marks w) → Progress graph roots marks order (done + 1)
Progress-done graph roots marks order done p lt here = record {
  search = p.search;
  rooted = p.rooted;
  within = omega arith;
  closed = λ k below w edge. elim (cases_lt k done) [ inl less ↦ p.closed k less w edge | inr more ↦ let e : k ≡ done = omega arith in here w (rw e at edge) ];
}

pub Contains-place : (order : List ℕ) (u : ℕ) → Contains order u → (k : ℕ) × (k < length order) × (get_or order k 0 ≡ u)
Contains-place order u m = (m.0, m.1, grind (arith, common_steps))

-- at the end all that is reached is marked
pub Progress-end : (graph : List (List ℕ)) (roots : List ℕ) (marks : List Bool) (order : List ℕ) (done : ℕ) → Progress graph roots marks order done → length order ≤ done → (v : ℕ) → IsReached (Contains roots) (HasEdge graph) v → IsMarked marks v
Progress-end graph roots marks order done p le v r =
    IsReached-closed (Contains roots) (HasEdge graph) (IsMarked marks)
    (λ x root. All-contains (IsMarked marks) roots x p.rooted root)
    (λ x y m e. let at = Contains-place order x (p.search.noted x m) in p.closed at.0 (omega (arith, at.1)) y (rw at.2 e))
    v r

-- the first roots are marked
pub record Rooted (graph : List (List ℕ)) (roots : List ℕ) (marks : List Bool) (order : List ℕ) (n : ℕ) : Type 0 where
  pub search : Search graph roots marks order
  pub marked : (k : ℕ) → k < n → IsMarked marks (get_or roots k 0)

pub get_or_false : (n v : ℕ) → get_or (replicate n false) v false ≡ false
get_or_false n v = elim (cases_lt v n) [ inl lt ↦ get_or-replicate n v false false lt | inr le ↦ get_or_past (replicate n false) v false (rw length-replicate le) ]

pub Rooted-none : (graph : List (List ℕ)) (roots : List ℕ) (marks : List Bool) → marks ≡ replicate (length graph) false → Rooted graph roots marks [] 0
Rooted-none graph roots marks e = record {
  search = record {
    size = ap length e ∙ length-replicate (length graph) false;
    marked = All-nil (IsMarked marks);
    noted = λ v m. absurd (false≢true (sym (get_or_false (length graph) v) ∙ (rw e at m)));
    reached = All-nil (IsReached (Contains roots) (HasEdge graph));
    spent = sym (ap (λ m. steps_of m graph) e ∙ steps_of-none (length graph) graph);
  };
  marked = λ k below. absurd (omega arith);
}

pub Rooted-more : (graph : List (List ℕ)) (roots : List ℕ) (marks : List Bool) (order : List ℕ) (n : ℕ) → All (λ r. r < length graph) roots → Rooted graph roots marks order n → n < length roots → Rooted graph roots (set marks (get_or roots n 0) true) (with_mark marks order (get_or roots n 0)) (n + 1)
Rooted-more graph roots marks order n small r lt =
    let v = get_or roots n 0 in
    let node : v < length graph = small n 0 lt in
    let inside : v < length marks = rw r.search.size node in
    record {
      search = Search-mark graph roots marks order v r.search node (IsReached-root (Contains roots) (HasEdge graph) v (Contains-get_or roots n 0 lt));
      marked = below_more (λ k. IsMarked (set marks v true) (get_or roots k 0)) n (λ k below. IsMarked-set marks v (get_or roots k 0) inside (r.marked k below)) (IsMarked-set_same marks v inside);
    }

pub Rooted-all : (graph : List (List ℕ)) (roots : List ℕ) (marks : List Bool) (order : List ℕ) (n : ℕ) → Rooted graph roots marks order n → length roots ≤ n → Progress graph roots marks order 0
Rooted-all graph roots marks order n r le = record {
  search = r.search;
  rooted = All-from_get_or (IsMarked marks) roots 0 (λ k lt. r.marked k (omega arith));
  within = omega arith;
  closed = λ k below w edge. absurd (omega arith);
}

-- the first successors of the node at hand are marked
pub record Heads (graph : List (List ℕ)) (roots : List ℕ) (marks : List Bool) (order : List ℕ) (done node : ℕ) (heads : List ℕ) (n : ℕ) : Type 0 where
  pub progress : Progress graph roots marks order done
  pub here : done < length order
  pub at : get_or order done 0 ≡ node
  pub row : heads ≡ get_or graph node []
  pub nodes : All (λ t. t < length graph) heads
  pub marked : (k : ℕ) → k < n → IsMarked marks (get_or heads k 0)

pub Heads-more : (graph : List (List ℕ)) (roots : List ℕ) (marks : List Bool) (order : List ℕ) (done node : ℕ) (heads : List ℕ) (n : ℕ) → Heads graph roots marks order done node heads n → n < length heads → Heads graph roots (set marks (get_or heads n 0) true) (with_mark marks order (get_or heads n 0)) done node heads (n + 1)
Heads-more graph roots marks order done node heads n h lt =
    let v = get_or heads n 0 in
    let edge : HasEdge graph node v = subst (λ (l : List ℕ). Contains l (get_or heads n 0)) h.row (Contains-get_or heads n 0 lt) in
    let inside : v < length graph = h.nodes n 0 lt in
    let inside_marks : v < length marks = rw h.progress.search.size inside in
    let from : IsReached (Contains roots) (HasEdge graph) node = rw (← h.at) (h.progress.search.reached done 0 h.here) in
    record {
      progress = Progress-mark graph roots marks order done v h.progress inside (IsReached-step (Contains roots) (HasEdge graph) node v from edge);
      here = omega (arith, h.here, length-with_mark marks order v);
      at = get_or-with_mark marks order v done h.here ∙ h.at;
      row = h.row;
      nodes = h.nodes;
      marked = below_more (λ k. IsMarked (set marks v true) (get_or heads k 0)) n (λ k below. IsMarked-set marks v (get_or heads k 0) inside_marks (h.marked k below)) (IsMarked-set_same marks v inside_marks);
    }

pub Heads-all : (graph : List (List ℕ)) (roots : List ℕ) (marks : List Bool) (order : List ℕ) (done node : ℕ) (heads : List ℕ) (n : ℕ) → Heads graph roots marks order done node heads n → length heads ≤ n → Progress graph roots marks order (done + 1)
Heads-all graph roots marks order done node heads n h le =
    Progress-done graph roots marks order done h.progress h.here
    (λ w edge. All-contains (IsMarked marks) heads w (All-from_get_or (IsMarked marks) heads 0 (λ k lt. h.marked k (omega arith))) (rw (h.at, ← h.row) at edge))

pub Search-reached : (graph : List (List ℕ)) (roots : List ℕ) (marks : List Bool) (order : List ℕ) → Search graph roots marks order → (v : ℕ) → IsMarked marks v → IsReached (Contains roots) (HasEdge graph) v
Search-reached graph roots marks order s v m = All-contains (IsReached (Contains roots) (HasEdge graph)) order v s.reached (s.noted v m)

-- at the end the marks are those of what is reached
pub Progress-reached : (graph : List (List ℕ)) (roots : List ℕ) (marks : List Bool) (order : List ℕ) (done : ℕ) → Progress graph roots marks order done → length order ≤ done → MarksReached graph roots marks
Progress-reached graph roots marks order done p le = record {
  each = p.search.size;
  only = Search-reached graph roots marks order p.search;
  every = Progress-end graph roots marks order done p le;
}

-- ---- steps

-- what the node at hand has cost so far is within the whole
pub steps_within : (graph : List (List ℕ)) (roots : List ℕ) (marks : List Bool) (order : List ℕ) (done node : ℕ) (heads : List ℕ) (n : ℕ) → Heads graph roots marks order done node heads n → n < length heads → sum_by (cost graph) (take done order) + 1 + n + 1 ≤ length graph + sum_by length graph
steps_within graph roots marks order done node heads n h lt =
    let size : length heads ≡ length (get_or graph (get_or order done 0) []) = ap length (h.row ∙ ap (λ v. get_or graph v []) (sym h.at)) in
    omega (arith, sum_by_more_le (cost graph) order done 0 h.here, Search-spent graph roots marks order h.progress.search)

pub steps_more : (graph : List (List ℕ)) (roots : List ℕ) (marks : List Bool) (order : List ℕ) (done node : ℕ) (heads : List ℕ) (n : ℕ) → Heads graph roots marks order done node heads n → length heads ≡ n → sum_by (cost graph) (take done order) + 1 + n ≡ sum_by (cost graph) (take (done + 1) order)
steps_more graph roots marks order done node heads n h e =
    let size : length heads ≡ length (get_or graph (get_or order done 0) []) = ap length (h.row ∙ ap (λ v. get_or graph v []) (sym h.at)) in
    omega (arith, sum_by_more (cost graph) order done 0 h.here)
