-- A graph, by its edges and by the stretch of each node.
use Rattle.std.specs.Prelude.{◌≡◌, ℕ, ◌+◌, ◌<◌, ◌≤◌, ◌==◌, ◌↔◌, List, [], ◌∷◌, ◌++◌, length, map, filter, take, All, Contains, slice_index, slice_index_or, slice_range, slice_set, sum}
use Rattle.std.specs.List.{range_with_len}
use Rattle.wl_reach.specs.declared.graph.Edge.{Edge}

-- an edge leads from node a to node b
abbrev pub HasEdge : List (List ℕ) → ℕ → ℕ → Type 0
HasEdge graph a b = Contains (slice_index_or graph a []) b

-- these are the edges of the graph
abbrev pub HasEdges : List Edge → List (List ℕ) → Type 0
HasEdges edges graph = (a b : ℕ) → HasEdge graph a b ↔ Contains edges (record { from = a; to = b })

-- where an edge leads
abbrev pub edge_to : Edge → ℕ
edge_to e = e.to

-- the nodes to which edges lead from a node, in order of the edges
unfoldable pub targets_of : List Edge → ℕ → List ℕ
targets_of edges a = map edge_to (filter (λ (e : Edge). e.from == a) edges)

-- how many edges lead from a node
abbrev pub degree : List Edge → ℕ → ℕ
degree edges a = length (targets_of edges a)

-- the graph of so many nodes with these edges
unfoldable pub graph_of : ℕ → List Edge → List (List ℕ)
graph_of n edges = map (targets_of edges) (range_with_len 0 n)

-- the stretch of a node in the table of all targets
abbrev pub stretch : List ℕ → List ℕ → List ℕ → ℕ → List ℕ
stretch starts ends targets k = slice_range targets (slice_index starts k) (slice_index ends k)

-- the stretch of each node
unfoldable pub stretches : List ℕ → List ℕ → List ℕ → List (List ℕ)
stretches starts ends targets = map (stretch starts ends targets) (range_with_len 0 (length starts))

-- each stretch lies in the table, which names nodes
pub record IsLaid (starts ends targets : List ℕ) : Type 0 where
  pub size : length ends ≡ length starts
  pub order : (k : ℕ) → k < length starts → slice_index starts k ≤ slice_index ends k
  pub room : (k : ℕ) → k < length starts → slice_index ends k ≤ length targets
  pub nodes : (k : ℕ) → k < length starts
      → All (λ t. t < length starts) (stretch starts ends targets k)

-- each of the first n entries is the sum of the counts before it
pub record AreSums (counts : List ℕ) (n : ℕ) (starts : List ℕ) : Type 0 where
  pub size : length starts ≡ n
  pub at : (k : ℕ) → k < n → slice_index starts k ≡ sum (take k counts)

-- ---- a graph that is laid edge by edge

-- room for so many edges more at a node
abbrev pub with_room : List ℕ → ℕ → ℕ → List ℕ
with_room rooms node more = slice_set rooms node (slice_index rooms node + more)

-- there is room for these edges
abbrev pub HasRoom : List ℕ → List Edge → Type 0
HasRoom rooms edges = (k : ℕ) → k < length rooms → degree edges k ≤ slice_index rooms k

-- one edge more, after those from its node
abbrev pub with_edge : List (List ℕ) → Edge → List (List ℕ)
with_edge graph e = slice_set graph e.from (slice_index_or graph e.from [] ++ e.to ∷ [])

-- the graph of the edges that are laid, and for how many from each node there is room in all
pub record Building : Type 0 where
  pub graph : List (List ℕ)
  pub rooms : List ℕ

-- stretches with their room stand one after the other, and hold nodes no further than that
pub record IsBuilding (rooms starts ends targets : List ℕ) : Type 0 where
  pub begins : AreSums rooms (length rooms) starts
  pub size : length ends ≡ length starts
  pub order : (k : ℕ) → k < length starts → slice_index starts k ≤ slice_index ends k
  pub within : (k : ℕ) → k < length starts
      → slice_index ends k ≤ slice_index starts k + slice_index rooms k
  pub all : length targets ≡ sum rooms
  pub nodes : (k : ℕ) → k < length starts
      → All (λ t. t < length starts) (stretch starts ends targets k)
