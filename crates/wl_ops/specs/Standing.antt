-- Where a byte of a body stands, and what a body keeps whose numbers are rewritten.
use Rattle.std.specs.Prelude.{◌≡◌, ◌⊎◌, ℕ, ◌+◌, ◌≤◌, ◌<◌, map, take, drop, true, List, ◌∷◌, ◌++◌, length, Option}
use Rattle.std.specs.List.{AllByRecursion}
use Rattle.wl_bytes.specs.Grammar.{Items}
use Rattle.wl_ops.specs.declared.op.DataIndexImm.{DataIndexImm}
use Rattle.wl_ops.specs.declared.op.Op.{Op}
use Rattle.wl_ops.specs.Operators.{IsTaken}
use Rattle.wl_ops.specs.Decoding.{AreLocals, is_ended, AreTaken}
use Rattle.wl_ops.specs.Rewriting.{Moves, renumbered}

-- The byte at p stands in the local declarations of the body.
pub record StandsInLocals (body : List ℕ) (p : ℕ) : Type 0 where
  pub locals : List (ℕ × ℕ)
  pub front : List ℕ
  pub back : List ℕ
  pub parts : body ≡ front ++ back
  pub declared : AreLocals 0 locals front
  pub below : p < length front

-- The byte at p stands in the operator of position i of the body: i operators are before it.
pub record StandsIn (body : List ℕ) (i p : ℕ) : Type 0 where
  pub locals : List (ℕ × ℕ)
  pub earlier : List Op
  pub op : Op
  pub later : List Op
  pub front : List ℕ
  pub first : List ℕ
  pub text : List ℕ
  pub rest : List ℕ
  pub parts : body ≡ front ++ (first ++ (text ++ rest))
  pub declared : AreLocals 0 locals front
  pub spelled_earlier : Items IsTaken (length front) earlier first
  pub spelled : IsTaken (length front + length first) op text
  pub spelled_later : Items IsTaken (length front + length first + length text) later rest
  pub ended : is_ended (earlier ++ op ∷ later) ≡ true
  pub count : length earlier ≡ i
  pub above : length front + length first ≤ p
  pub below : p < length front + length first + length text

-- w bytes at p share no byte with a number
abbrev pub OverlapsNone : List DataIndexImm → ℕ → ℕ → Type 0
OverlapsNone ns p w = AllByRecursion (λ n. (n.offset + n.len ≤ p) ⊎ (p + w ≤ n.offset)) ns

-- w bytes at a place
abbrev pub window : ℕ → ℕ → List ℕ → List ℕ
window p w x = take w (drop p x)

-- What x keeps whose numbers ns are rewritten, so that y comes out: every operator but for these
-- numbers, the bytes of each field of w bytes at p that overlaps no number, and each of them in the
-- operator of the same position, or in the local declarations, which don't move.
pub record Keeps (new : ℕ → Option ℕ) (ns : List DataIndexImm) (x y : List ℕ) : Type 0 where
  pub operators : (ops : List Op) → AreTaken ops x → AreTaken (map (renumbered new) ops) y
  pub bytes : (p q w : ℕ) → Moves new ns p q → OverlapsNone ns p w → p + w ≤ length x
      → window q w y ≡ window p w x
  pub places : (p q w i j : ℕ) → Moves new ns p q → OverlapsNone ns p w → j < w
      → StandsIn x i (p + j) → StandsIn y i (q + j)
  pub locals : (p q w j : ℕ) → Moves new ns p q → OverlapsNone ns p w → j < w
      → StandsInLocals x (p + j) → (q ≡ p) × StandsInLocals y (q + j)
