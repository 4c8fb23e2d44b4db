-- What chains of references lead to.
use Rattle.std.specs.Prelude.{◌≡◌, ℕ, ◌+◌, ◌-◌, Bool, false, if◌then◌else◌, List, [], ◌∷◌, ◌++◌, length, Some, Contains, slice_get, slice_index_or}
use Rattle.wl_reach.specs.Graph.{HasEdge}
use Rattle.wl_reach.specs.Marks.{IsMarked}

-- the list begins with a root, each of its members refers to the next, and the last one is this
pub record IsChain {X : Type 0} (root : X → Type 0) (refers : X → X → Type 0) (chain : List X)
    (last : X) : Type 0 where
  pub begins : (first : X) × (slice_get chain 0 ≡ Some first) × root first
  pub linked : (k : ℕ) (x y : X) → slice_get chain k ≡ Some x → slice_get chain (k + 1) ≡ Some y
      → refers x y
  pub ends : slice_get chain (length chain - 1) ≡ Some last

-- such a list exists
abbrev pub IsReached : {X : Type 0} → (X → Type 0) → (X → X → Type 0) → X → Type 0
IsReached {X} root refers last = (chain : List X) × IsChain root refers chain last

-- of so many nodes exactly those are marked to which edges lead from one of the roots
pub record MarksReached (graph : List (List ℕ)) (roots : List ℕ) (marks : List Bool) : Type 0 where
  pub each : length marks ≡ length graph
  pub only : (node : ℕ) → IsMarked marks node → IsReached (Contains roots) (HasEdge graph) node
  pub every : (node : ℕ) → IsReached (Contains roots) (HasEdge graph) node → IsMarked marks node

-- a step for each marked node, and one for each edge from it
abbrev pub steps_of : List Bool → List (List ℕ) → ℕ
steps_of [] graph = 0
steps_of (is_marked ∷ marks) [] = 0
steps_of (is_marked ∷ marks) (heads ∷ graph) =
    (if is_marked then 1 + length heads else 0) + steps_of marks graph

-- the marked nodes in their order, with one more after them if it wasn't marked
abbrev pub with_mark : List Bool → List ℕ → ℕ → List ℕ
with_mark marks order node = if slice_index_or marks node false then order else order ++ node ∷ []
