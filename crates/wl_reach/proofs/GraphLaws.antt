-- A table of edges: what room for more edges and one more edge change, and that each stretch holds the edges of its node.
use Rattle.std.proofs.Common.{◌≡◌, ◌≢◌, ℕ, zero, suc, ◌+◌, ◌-◌, ◌<◌, ◌≤◌, ◌==◌, List, [], ◌∷◌, ◌++◌, length, get_or, set, take, drop, map, inl, inr, refl, ap, sym, ◌∙◌, arith, All, sum, sum_by, subst, ◌⊎◌, ◌↔◌, Contains, length-append, replicate}
use Rattle.std.proofs.lemmas.Bool.{cases_eq, cases_lt, eq-eqb, ne_eqb}
use Rattle.std.proofs.lemmas.List.{map-append, append-nil, length-set, get_or-set_same, get_or-set_other, get_or-replicate, get_or_past, drop-set-lt, drop-set-add, take-set-le, take_more_set, take-take, same_lists, length-drop, length-take, length-replicate}
use Rattle.std.proofs.lemmas.List.Elements.{filter-append, All-same, All-contains, All-append}
use Rattle.std.proofs.lemmas.List.Sums.{sum_by-set, sum_by_more, sum_by-take-le, sum_by_more_le}
use Rattle.std.proofs.lemmas.List.Folds.{sum_by-replicate}
use Rattle.std.proofs.lemmas.List.FromFn.{length-map-range_with_len, get_or-map-range_with_len}
use Rattle.wl_reach.specs.declared.graph.Edge.{Edge}
use Rattle.wl_reach.specs.Graph.{edge_to, targets_of, degree, graph_of, HasEdge, HasRoom, with_room, with_edge, stretch, stretches, IsLaid, Building, IsBuilding, AreSums}

-- ---- the edges of a node

pub targets_of_none : (k : ℕ) → targets_of [] k ≡ []
unfolding targets_of
targets_of_none k = refl

pub targets_of-cons_same : (e : Edge) (edges : List Edge) (a : ℕ) → e.from ≡ a → targets_of (e ∷ edges) a ≡ e.to ∷ targets_of edges a
unfolding targets_of
targets_of-cons_same e edges a same = rw (eq-eqb e.from a same) refl

pub targets_of-cons_other : (e : Edge) (edges : List Edge) (a : ℕ) → e.from ≢ a → targets_of (e ∷ edges) a ≡ targets_of edges a
unfolding targets_of
targets_of-cons_other e edges a other = rw (ne_eqb e.from a other) refl

pub targets_of-append : (old more : List Edge) (k : ℕ) → targets_of (old ++ more) k ≡ targets_of old k ++ targets_of more k
unfolding targets_of
targets_of-append old more k = ap (map edge_to) (filter-append (λ (e : Edge). e.from == k) old more) ∙ map-append edge_to _ _

pub degree-append : (old more : List Edge) (k : ℕ) → degree (old ++ more) k ≡ degree old k + degree more k
degree-append old more k = ap length (targets_of-append old more k) ∙ length-append (targets_of old k) (targets_of more k)

degree-le : (edges : List Edge) (k : ℕ) → degree edges k ≤ length edges
degree-le [] k = rw targets_of_none (omega arith)
degree-le (e ∷ edges) k =
    elim (cases_eq e.from k) [
      | inl same ↦ omega (arith, ap length (targets_of-cons_same e edges k same), degree-le edges k)
      | inr other ↦ omega (arith, ap length (targets_of-cons_other e edges k other), degree-le edges k)
    ]

degree-elsewhere : (edges : List Edge) (node k : ℕ) → All (λ e. e.from ≡ node) edges → k ≢ node → degree edges k ≡ 0
degree-elsewhere [] node k all other = ap length (targets_of_none k)
degree-elsewhere (e ∷ edges) node k all other =
    let from : e.from ≡ node = all 0 e (omega arith) in
    ap length (targets_of-cons_other e edges k (λ same. other (sym same ∙ from)))
    ∙ degree-elsewhere edges node k (λ i d lt. all (suc i) d (omega (arith, lt))) other

-- ---- room

pub HasRoom-none : (rooms : List ℕ) → HasRoom rooms []
HasRoom-none rooms k lt = omega (arith, ap length (targets_of_none k))

pub HasRoom-more : (rooms : List ℕ) (node count : ℕ) (old more : List Edge) → node < length rooms → HasRoom rooms old → All (λ e. e.from ≡ node) more → length more ≤ count → HasRoom (with_room rooms node count) (old ++ more)
HasRoom-more rooms node count old more lt has from le k within =
    let inside : k < length rooms = rw length-set at within in
    elim (cases_eq k node) [
      | inl same ↦
          let here : get_or (with_room rooms node count) k 0 ≡ get_or rooms node 0 + count = ap (λ (j : ℕ). get_or (with_room rooms node count) j 0) same ∙ get_or-set_same rooms node (get_or rooms node 0 + count) 0 lt in
          let room : degree old k ≤ get_or rooms node 0 = subst (λ (j : ℕ). degree old k ≤ get_or rooms j 0) same (has k inside) in
          omega (arith, here, room, degree-append old more k, degree-le more k, le)
      | inr other ↦
          omega (arith, get_or-set_other rooms node k (get_or rooms node 0 + count) 0 other, has k inside, degree-append old more k, degree-elsewhere more node k from other)
    ]

pub sum-zeros : (n : ℕ) → sum (replicate n 0) ≡ 0
sum-zeros n = omega (arith, sum_by-replicate (λ (x : ℕ). x) n 0)

counts_room : (counts : List ℕ) (k : ℕ) → k < length counts → sum (take k counts) + get_or counts k 0 ≤ sum counts
counts_room counts k lt = sum_by_more_le (λ (x : ℕ). x) counts k 0 lt

counts_apart : (counts : List ℕ) (j k : ℕ) → j < k → k < length counts → sum (take j counts) + get_or counts j 0 ≤ sum (take k counts)
counts_apart counts j k before lt =
    let one : sum (take (j + 1) counts) ≡ sum (take j counts) + get_or counts j 0 = sum_by_more (λ (x : ℕ). x) counts j 0 (omega arith) in
    let front : sum (take (j + 1) counts) ≤ sum (take k counts) = rw (take-take (j + 1) k counts (omega arith)) at (sum_by-take-le (λ (x : ℕ). x) (take k counts) (j + 1)) in
    omega arith

-- ---- stretches

-- a write outside a stretch
stretch_kept : (xs : List ℕ) (s n p v : ℕ) → (p < s) → take n (drop s (set xs p v)) ≡ take n (drop s xs)
stretch_kept xs s n p v lt = ap (take n) (drop-set-lt s xs p v lt)

stretch_kept_behind : (xs : List ℕ) (s n p v : ℕ) → s + n ≤ p → take n (drop s (set xs p v)) ≡ take n (drop s xs)
stretch_kept_behind xs s n p v le =
    let q : s + (p - s) ≡ p = omega arith in
    ap (λ r. take n (drop s (set xs r v))) (sym q) ∙ (ap (take n) (drop-set-add s xs (p - s) v) ∙ take-set-le n (drop s xs) (p - s) v (omega arith))

-- a write just after a stretch
stretch_more : (xs : List ℕ) (s n p v : ℕ) → p ≡ s + n → p < length xs → take (n + 1) (drop s (set xs p v)) ≡ take n (drop s xs) ++ v ∷ []
stretch_more xs s n p v e lt =
    ap (λ r. take (n + 1) (drop s (set xs r v))) e
    ∙ (ap (take (n + 1)) (drop-set-add s xs n v) ∙ take_more_set (drop s xs) n v (omega (arith, length-drop s xs)))

-- ---- how a graph is read

pub length-stretches : (starts ends targets : List ℕ) → length (stretches starts ends targets) ≡ length starts
unfolding stretches
length-stretches starts ends targets = length-map-range_with_len (stretch starts ends targets) 0 (length starts)

pub get_or-stretches : (starts ends targets : List ℕ) (k : ℕ) (d : List ℕ) → k < length starts → get_or (stretches starts ends targets) k d ≡ stretch starts ends targets k
unfolding stretches
get_or-stretches starts ends targets k d lt = get_or-map-range_with_len (stretch starts ends targets) 0 (length starts) k k d lt (omega arith)

-- a node of the graph has a stretch
pub node_within : (starts ends targets : List ℕ) (graph : List (List ℕ)) (node : ℕ) → stretches starts ends targets ≡ graph → node < length graph → node < length starts
node_within starts ends targets graph node is lt = rw (← is, length-stretches) at lt

-- ---- one edge more in the table

pub All-one : {X : Type 0} (P : X → Type 0) (x : X) → P x → All P (x ∷ [])
All-one P x p zero d lt = p
All-one P x p (suc k) d lt = absurd (omega (arith, lt))

-- the edge of a node goes to its end, inside its room and the table
pub record Free (rooms starts ends targets : List ℕ) (node : ℕ) : Type 0 where
  pub inside : node < length starts
  pub room : get_or ends node 0 < get_or starts node 0 + get_or rooms node 0
  pub table : get_or ends node 0 < length targets

sums_within : (rooms starts ends targets : List ℕ) → IsBuilding rooms starts ends targets → (k : ℕ) → k < length starts → get_or starts k 0 + get_or rooms k 0 ≤ length targets
sums_within rooms starts ends targets b k lt =
    let within : k < length rooms = rw b.begins.size at lt in
    omega (arith, b.begins.at k within, counts_room rooms k within, b.all)

sums_apart : (rooms starts ends targets : List ℕ) → IsBuilding rooms starts ends targets → (j k : ℕ) → j < k → k < length starts → get_or starts j 0 + get_or rooms j 0 ≤ get_or starts k 0
sums_apart rooms starts ends targets b j k before lt =
    let within : k < length rooms = rw b.begins.size at lt in
    omega (arith, b.begins.at k within, b.begins.at j (omega arith), counts_apart rooms j k before within)

length-stretch : (rooms starts ends targets : List ℕ) → IsBuilding rooms starts ends targets → (k : ℕ) → k < length starts → length (stretch starts ends targets k) ≡ get_or ends k 0 - get_or starts k 0
length-stretch rooms starts ends targets b k lt =
    omega (arith, length-take (get_or ends k 0 - get_or starts k 0) (drop (get_or starts k 0) targets), length-drop (get_or starts k 0) targets, b.order k lt, b.within k lt, sums_within rooms starts ends targets b k lt)

is_free : (rooms starts ends targets : List ℕ) (node : ℕ) → IsBuilding rooms starts ends targets → node < length (stretches starts ends targets) → length (get_or (stretches starts ends targets) node []) < get_or rooms node 0 → Free rooms starts ends targets node
is_free rooms starts ends targets node b lt room =
    let inside : node < length starts = rw length-stretches at lt in
    let long : length (get_or (stretches starts ends targets) node []) ≡ get_or ends node 0 - get_or starts node 0 = ap length (get_or-stretches starts ends targets node [] inside) ∙ length-stretch rooms starts ends targets b node inside in
    record {
      inside = inside;
      room = omega (arith, long, room, b.order node inside);
      table = omega (arith, long, room, b.order node inside, sums_within rooms starts ends targets b node inside);
    }

-- the same by what clauses see
pub is_free_at : (rooms starts ends targets : List ℕ) (node : ℕ) (seen : Building) → record { graph = stretches starts ends targets; rooms = rooms } ≡ seen → IsBuilding rooms starts ends targets → node < length seen.graph → length (get_or seen.graph node []) < get_or seen.rooms node 0 → Free rooms starts ends targets node
is_free_at rooms starts ends targets node seen is b lt room =
    is_free rooms starts ends targets node b
    (subst (λ (s : Building). node < length s.graph) (sym is) lt)
    (subst (λ (s : Building). length (get_or s.graph node []) < get_or s.rooms node 0) (sym is) room)

-- the stretch of its node is longer by the edge
stretch-here : (rooms starts ends targets : List ℕ) (node to : ℕ) → IsBuilding rooms starts ends targets → Free rooms starts ends targets node → stretch starts (set ends node (get_or ends node 0 + 1)) (set targets (get_or ends node 0) to) node ≡ stretch starts ends targets node ++ to ∷ []
stretch-here rooms starts ends targets node to b f =
    let start = get_or starts node 0 in
    let end = get_or ends node 0 in
    let within : node < length ends = rw b.size f.inside in
    let new : get_or (set ends node (end + 1)) node 0 ≡ end + 1 = get_or-set_same ends node (end + 1) 0 within in
    let long : get_or (set ends node (end + 1)) node 0 - start ≡ end - start + 1 = omega (arith, new, b.order node f.inside) in
    ap (λ (n : ℕ). take n (drop start (set targets end to))) long
    ∙ stretch_more targets start (end - start) end to (omega (arith, b.order node f.inside)) f.table

-- the others are as they were
stretch-elsewhere : (rooms starts ends targets : List ℕ) (node to : ℕ) → IsBuilding rooms starts ends targets → Free rooms starts ends targets node → (k : ℕ) → k < length starts → k ≢ node → stretch starts (set ends node (get_or ends node 0 + 1)) (set targets (get_or ends node 0) to) k ≡ stretch starts ends targets k
stretch-elsewhere rooms starts ends targets node to b f k lt other =
    let start = get_or starts k 0 in
    let end = get_or ends k 0 in
    let place = get_or ends node 0 in
    let same : get_or (set ends node (place + 1)) k 0 ≡ end = get_or-set_other ends node k (place + 1) 0 other in
    ap (λ (n : ℕ). take (n - start) (drop start (set targets place to))) same
    ∙ elim (cases_lt k node) [
      | inl before ↦
          stretch_kept_behind targets start (end - start) place to
          (omega (arith, b.order k lt, b.within k lt, b.order node f.inside, sums_apart rooms starts ends targets b k node before f.inside))
      | inr after ↦
          let above : node < k = omega arith in
          stretch_kept targets start (end - start) place to (omega (arith, f.room, sums_apart rooms starts ends targets b node k above lt))
    ]

pub stretches-more : (rooms starts ends targets : List ℕ) (e : Edge) → IsBuilding rooms starts ends targets → Free rooms starts ends targets e.from → stretches starts (set ends e.from (get_or ends e.from 0 + 1)) (set targets (get_or ends e.from 0) e.to) ≡ with_edge (stretches starts ends targets) e
stretches-more rooms starts ends targets e b f =
    let old = stretches starts ends targets in
    let row = get_or old e.from [] ++ e.to ∷ [] in
    let ends_new = set ends e.from (get_or ends e.from 0 + 1) in
    let targets_new = set targets (get_or ends e.from 0) e.to in
    let within : e.from < length old = rw length-stretches f.inside in
    same_lists _ _ (length-stretches starts ends_new targets_new ∙ sym (length-set old e.from row ∙ length-stretches starts ends targets))
    (λ k d lt.
    let below : k < length starts = rw length-stretches at lt in
    get_or-stretches starts ends_new targets_new k d below
    ∙ elim (cases_eq k e.from) [
      | inl same ↦
          let here : stretch starts ends_new targets_new e.from ≡ row = stretch-here rooms starts ends targets e.from e.to b f ∙ ap (λ (l : List ℕ). l ++ e.to ∷ []) (sym (get_or-stretches starts ends targets e.from [] f.inside)) in
          rw same (here ∙ sym (get_or-set_same old e.from row d within))
      | inr other ↦
          stretch-elsewhere rooms starts ends targets e.from e.to b f k below other
          ∙ (sym (get_or-stretches starts ends targets k d below) ∙ sym (get_or-set_other old e.from k row d other))
    ])

pub IsBuilding-more : (rooms starts ends targets : List ℕ) (e : Edge) → IsBuilding rooms starts ends targets → Free rooms starts ends targets e.from → e.to < length starts → IsBuilding rooms starts (set ends e.from (get_or ends e.from 0 + 1)) (set targets (get_or ends e.from 0) e.to)
IsBuilding-more rooms starts ends targets e b f to =
    let within : e.from < length ends = rw b.size f.inside in
    let place = get_or ends e.from 0 in
    let here : get_or (set ends e.from (place + 1)) e.from 0 ≡ place + 1 = get_or-set_same ends e.from (place + 1) 0 within in
    record {
      begins = b.begins;
      size = length-set ends e.from _ ∙ b.size;
      order = λ k lt.
          elim (cases_eq k e.from) [
            | inl same ↦ rw same (omega (arith, here, b.order e.from f.inside))
            | inr other ↦ omega (arith, get_or-set_other ends e.from k (place + 1) 0 other, b.order k lt)
          ];
      within = λ k lt.
          elim (cases_eq k e.from) [
            | inl same ↦ rw same (omega (arith, here, f.room))
            | inr other ↦ omega (arith, get_or-set_other ends e.from k (place + 1) 0 other, b.within k lt)
          ];
      all = length-set targets _ e.to ∙ b.all;
      nodes = λ k lt.
          elim (cases_eq k e.from) [
            | inl same ↦
                rw same
                (All-same (λ t. t < length starts) _ _ (stretch-here rooms starts ends targets e.from e.to b f)
                (All-append (λ t. t < length starts) (stretch starts ends targets e.from) (e.to ∷ []) (b.nodes e.from f.inside) (All-one (λ t. t < length starts) e.to to)))
            | inr other ↦ All-same (λ t. t < length starts) _ _ (stretch-elsewhere rooms starts ends targets e.from e.to b f k lt other) (b.nodes k lt)
          ];
    }

-- no stretch holds an edge yet
stretch-none : (starts targets : List ℕ) (k : ℕ) → stretch starts starts targets k ≡ []
stretch-none starts targets k = let none : get_or starts k 0 - get_or starts k 0 ≡ 0 = omega arith in ap (λ (n : ℕ). take n (drop (get_or starts k 0) targets)) none

pub IsBuilding-none : (rooms starts targets : List ℕ) → AreSums rooms (length rooms) starts → length targets ≡ sum rooms → IsBuilding rooms starts starts targets
IsBuilding-none rooms starts targets begins all = record {
  begins = begins;
  size = refl;
  order = λ k lt. omega arith;
  within = λ k lt. omega arith;
  all = all;
  nodes = λ k lt. rw stretch-none (λ i d within. absurd (omega (arith, within)));
}

pub IsLaid-from : (rooms starts ends targets : List ℕ) → IsBuilding rooms starts ends targets → IsLaid starts ends targets
IsLaid-from rooms starts ends targets b = record {
  size = b.size;
  order = b.order;
  room = λ k lt. omega (arith, b.within k lt, sums_within rooms starts ends targets b k lt);
  nodes = b.nodes;
}

-- ---- the graph of the edges

pub length-graph_of : (n : ℕ) (edges : List Edge) → length (graph_of n edges) ≡ n
unfolding graph_of
length-graph_of n edges = length-map-range_with_len (targets_of edges) 0 n

pub get_or-graph_of : (n : ℕ) (edges : List Edge) (k : ℕ) (d : List ℕ) → k < n → get_or (graph_of n edges) k d ≡ targets_of edges k
unfolding graph_of
get_or-graph_of n edges k d lt = get_or-map-range_with_len (targets_of edges) 0 n k k d lt (omega arith)

pub graph_of_none : (n : ℕ) → graph_of n [] ≡ replicate n []
graph_of_none n =
    same_lists _ _ (length-graph_of n [] ∙ sym (length-replicate n []))
    (λ k d lt.
    let below : k < n = rw length-graph_of at lt in
    get_or-graph_of n [] k d below ∙ (targets_of_none k ∙ sym (get_or-replicate n k [] d below)))

pub graph_of-cons : (n : ℕ) (e : Edge) (edges : List Edge) → e.from < n → graph_of n (e ∷ edges) ≡ set (graph_of n edges) e.from (e.to ∷ get_or (graph_of n edges) e.from [])
graph_of-cons n e edges lt =
    let rows = graph_of n edges in
    let row = e.to ∷ get_or rows e.from [] in
    let inside : e.from < length rows = rw length-graph_of lt in
    same_lists _ _ (length-graph_of n (e ∷ edges) ∙ sym (length-set rows e.from row ∙ length-graph_of n edges))
    (λ k d within.
    let below : k < n = rw length-graph_of at within in
    get_or-graph_of n (e ∷ edges) k d below
    ∙ elim (cases_eq e.from k) [
      | inl same ↦
          let right : get_or (set rows e.from row) k d ≡ row = subst (λ (j : ℕ). get_or (set rows e.from row) j d ≡ row) same (get_or-set_same rows e.from row d inside) in
          targets_of-cons_same e edges k same ∙ (ap (λ (l : List ℕ). e.to ∷ l) (sym (get_or-graph_of n edges k [] below) ∙ ap (λ (j : ℕ). get_or rows j []) (sym same)) ∙ sym right)
      | inr other ↦
          targets_of-cons_other e edges k other ∙ (sym (get_or-graph_of n edges k d below) ∙ sym (get_or-set_other rows e.from k row d (λ same. other (sym same))))
    ])

-- one more after the others
pub graph_of-more : (n : ℕ) (edges : List Edge) (e : Edge) → graph_of n (edges ++ e ∷ []) ≡ with_edge (graph_of n edges) e
graph_of-more n edges e =
    let rows = graph_of n edges in
    let row = get_or rows e.from [] ++ e.to ∷ [] in
    same_lists _ _ (length-graph_of n (edges ++ e ∷ []) ∙ sym (length-set rows e.from row ∙ length-graph_of n edges))
    (λ k d within.
    let below : k < n = rw length-graph_of at within in
    get_or-graph_of n (edges ++ e ∷ []) k d below
    ∙ (targets_of-append edges (e ∷ []) k
    ∙ elim (cases_eq e.from k) [
      | inl same ↦
          let inside : e.from < length rows = rw (length-graph_of, same) below in
          let one : targets_of (e ∷ []) k ≡ e.to ∷ [] = targets_of-cons_same e [] k same ∙ ap (λ (l : List ℕ). e.to ∷ l) (targets_of_none k) in
          let right : get_or (set rows e.from row) k d ≡ row = subst (λ (j : ℕ). get_or (set rows e.from row) j d ≡ row) same (get_or-set_same rows e.from row d inside) in
          ap (λ (l : List ℕ). targets_of edges k ++ l) one
          ∙ (ap (λ (l : List ℕ). l ++ e.to ∷ []) (sym (get_or-graph_of n edges k [] below) ∙ ap (λ (j : ℕ). get_or rows j []) (sym same)) ∙ sym right)
      | inr other ↦
          let none : targets_of (e ∷ []) k ≡ [] = targets_of-cons_other e [] k other ∙ targets_of_none k in
          ap (λ (l : List ℕ). targets_of edges k ++ l) none
          ∙ (append-nil (targets_of edges k) ∙ (sym (get_or-graph_of n edges k d below) ∙ sym (get_or-set_other rows e.from k row d (λ same. other (sym same)))))
    ]))

-- there is room for the edge that comes next
pub room_left : (n : ℕ) (rooms : List ℕ) (edges : List Edge) (e : Edge) (rest : List Edge) → length rooms ≡ n → HasRoom rooms (edges ++ e ∷ rest) → e.from < n → length (get_or (graph_of n edges) e.from []) < get_or rooms e.from 0
room_left n rooms edges e rest size has lt =
    let here : degree (e ∷ rest) e.from ≡ degree rest e.from + 1 = ap length (targets_of-cons_same e rest e.from refl) ∙ omega arith in
    let room : degree (edges ++ e ∷ rest) e.from ≤ get_or rooms e.from 0 = has e.from (rw size lt) in
    omega (arith, ap length (get_or-graph_of n edges e.from [] lt), degree-append edges (e ∷ rest) e.from, here, room)

-- no edges, and no room taken
pub stretches-none : (starts targets : List ℕ) → stretches starts starts targets ≡ graph_of (length starts) []
stretches-none starts targets =
    same_lists _ _ (length-stretches starts starts targets ∙ sym (length-graph_of (length starts) []))
    (λ k d lt.
    let below : k < length starts = rw length-stretches at lt in
    get_or-stretches starts starts targets k d below
    ∙ (stretch-none starts targets k ∙ sym (get_or-graph_of (length starts) [] k d below ∙ targets_of_none k)))

pub Contains-here : {X : Type 0} (x : X) (xs : List X) → Contains (x ∷ xs) x
Contains-here x xs = (0, omega arith, refl)

pub Contains-there : {X : Type 0} (y x : X) (xs : List X) → Contains xs x → Contains (y ∷ xs) x
Contains-there y x xs m = (suc m.0, omega (arith, m.1), m.2)

pub Contains-cons_cases : {X : Type 0} (y x : X) (xs : List X) → Contains (y ∷ xs) x → (y ≡ x) ⊎ Contains xs x
Contains-cons_cases y x xs (zero, lt, e) = inl e
Contains-cons_cases y x xs (suc k, lt, e) = inr (k, omega arith, e)

pub targets_of-contains : (edges : List Edge) (a b : ℕ) → Contains edges (record { from = a; to = b }) → Contains (targets_of edges a) b
targets_of-contains [] a b m = absurd (omega (arith, m.1))
targets_of-contains (e ∷ edges) a b m =
    elim (Contains-cons_cases e (record { from = a; to = b }) edges m) [
      | inl here ↦ rw (targets_of-cons_same e edges a (ap (λ (x : Edge). x.from) here), here) (Contains-here b (targets_of edges a))
      | inr there ↦
          elim (cases_eq e.from a) [
            | inl same ↦ rw (targets_of-cons_same e edges a same) (Contains-there e.to b (targets_of edges a) (targets_of-contains edges a b there))
            | inr other ↦ rw (targets_of-cons_other e edges a other) (targets_of-contains edges a b there)
          ]
    ]

pub same_edge : (e : Edge) (a b : ℕ) → e.from ≡ a → e.to ≡ b → e ≡ record { from = a; to = b }
same_edge e a b from to = rw (← from, ← to) refl

pub contains-targets_of : (edges : List Edge) (a b : ℕ) → Contains (targets_of edges a) b → Contains edges (record { from = a; to = b })
contains-targets_of [] a b m = absurd (let n : Contains [] b = rw targets_of_none at m in omega (arith, n.1))
contains-targets_of (e ∷ edges) a b m =
    elim (cases_eq e.from a) [
      | inl same ↦
          elim (Contains-cons_cases e.to b (targets_of edges a) (rw (targets_of-cons_same e edges a same) at m)) [
            | inl to ↦ rw (← same_edge e a b same to) (Contains-here e edges)
            | inr there ↦ Contains-there e (record { from = a; to = b }) edges (contains-targets_of edges a b there)
          ]
      | inr other ↦ Contains-there e (record { from = a; to = b }) edges (contains-targets_of edges a b (rw (targets_of-cons_other e edges a other) at m))
    ]

-- an edge of the graph is one of the edges
pub HasEdge-graph_of : (n : ℕ) (edges : List Edge) → All (λ e. e.from < n) edges → (a b : ℕ) → HasEdge (graph_of n edges) a b ↔ Contains edges (record { from = a; to = b })
HasEdge-graph_of n edges from a b = (
  λ h.
      elim (cases_lt a n) [
        | inl lt ↦ contains-targets_of edges a b (subst (λ (l : List ℕ). Contains l b) (get_or-graph_of n edges a [] lt) h)
        | inr le ↦
            let none : get_or (graph_of n edges) a [] ≡ [] = get_or_past (graph_of n edges) a [] (rw length-graph_of le) in
            absurd (let m : Contains [] b = subst (λ (l : List ℕ). Contains l b) none h in omega (arith, m.1))
      ],
  λ m.
      let lt : a < n = All-contains (λ (e : Edge). e.from < n) edges (record { from = a; to = b }) from m in
      subst (λ (l : List ℕ). Contains l b) (sym (get_or-graph_of n edges a [] lt)) (targets_of-contains edges a b m),
)

-- together they are as many as the edges
pub sum_by-graph_of : (n : ℕ) (edges : List Edge) → All (λ e. e.from < n) edges → sum_by length (graph_of n edges) ≡ length edges
sum_by-graph_of n [] from = ap (sum_by (λ (x : List ℕ). length x)) (graph_of_none n) ∙ omega (arith, sum_by-replicate (λ (x : List ℕ). length x) n [])
sum_by-graph_of n (e ∷ edges) from =
    let inside : e.from < n = from 0 e (omega arith) in
    let rest = sum_by-graph_of n edges (λ k d lt. from (suc k) d (omega (arith, lt))) in
    let within : e.from < length (graph_of n edges) = rw length-graph_of inside in
    let more = ap (sum_by (λ (x : List ℕ). length x)) (graph_of-cons n e edges inside) in
    omega (arith, rest, more, sum_by-set (λ (x : List ℕ). length x) (graph_of n edges) e.from (e.to ∷ get_or (graph_of n edges) e.from []) [] within)
