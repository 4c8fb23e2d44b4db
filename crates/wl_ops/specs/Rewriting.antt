-- A body with other numbers of data segments: its bytes, and where what stood in it stands then.
use Rattle.std.specs.Prelude.{◌≡◌, ◌⊎◌, ℕ, ℤ, pos, negsuc, ◌+◌, ◌-◌, ◌*◌, ◌≤◌, ◌<◌, ◌^◌, nat_le, if◌then◌else◌, List, [], ◌∷◌, ◌++◌, length, slice_get, Bool, not, ◌==◌, Option, Some, None, Result}
use Rattle.std.specs.List.{Contains, filter, sum_by}
use Rattle.std.specs.Option.{unwrap_or}
use Rattle.wl_bytes.specs.Leb.{IsShortest}
use Rattle.wl_bytes.specs.declared.read_error.Why.TheVariants.{BadIndex}
use Rattle.wl_bytes.specs.declared.read_error.ReadError.{ReadError}
use Rattle.wl_bytes.specs.declared.read_error.ReadError.TheVariants.{OutOfMemory, Malformed, Unsupported}
use Rattle.wl_bytes.specs.Outcome.{ReadsWhole}
use Rattle.wl_ops.specs.declared.op.DataIndexImm.{DataIndexImm}
use Rattle.wl_ops.specs.declared.op.Op.{Op}
use Rattle.wl_ops.specs.declared.rewriting.Shift.{Shift}
use Rattle.wl_ops.specs.Numbers.{is_segment, NumbersFault, AreTold}

-- ---- the bytes

-- what a list has at a place, if it has anything there
abbrev pub flattened : {X : Type 0} → Option (Option X) → Option X
flattened None = None
flattened (Some o) = o

-- the new number of a segment, if it has one
abbrev pub new_index : List (Option ℕ) → ℕ → Option ℕ
new_index indices k = flattened (slice_get indices k)

-- the shortest spelling of a number of 32 bits
abbrev pub IsShort : ℕ → List ℕ → Type 0
IsShort k short = (k < 2 ^ 32) × IsShortest k short

-- x is cut at the numbers, and y is the same with the shortest spelling of the new number in the
-- place of each
abbrev pub Rewrites : (ℕ → Option ℕ) → ℕ → List DataIndexImm → List ℕ → List ℕ → Type 0
Rewrites new place [] x y = y ≡ x
Rewrites new place (n ∷ ns) x y =
    (before : List ℕ) × (digits : List ℕ) × (after : List ℕ) × (k : ℕ) × (short : List ℕ)
    × (more : List ℕ)
    × (x ≡ before ++ (digits ++ after)) × (n.offset ≡ place + length before)
    × (n.len ≡ length digits)
    × (new n.index ≡ Some k) × IsShort k short × (y ≡ before ++ (short ++ more))
    × Rewrites new (n.offset + n.len) ns after more

-- one of the numbers has no new one
abbrev pub LacksIndex : (ℕ → Option ℕ) → List DataIndexImm → Type 0
LacksIndex new ns = (n : DataIndexImm) × Contains ns n × (new n.index ≡ None)

-- ---- the places

-- the number ends at p or before
abbrev pub is_before : ℕ → DataIndexImm → Bool
is_before p n = nat_le (n.offset + n.len) p

-- the numbers before p
abbrev pub before : ℕ → List DataIndexImm → List DataIndexImm
before p ns = filter (is_before p) ns

-- how many bytes the numbers have together
abbrev pub old_bytes : List DataIndexImm → ℕ
old_bytes ns = sum_by (λ n. n.len) ns

-- how many bytes the shortest spellings of their new numbers have together
abbrev pub NewBytes : (ℕ → Option ℕ) → List DataIndexImm → ℕ → Type 0
NewBytes new [] bytes = bytes ≡ 0
NewBytes new (n ∷ ns) bytes = (k : ℕ) × (short : List ℕ) × (others : ℕ)
    × (new n.index ≡ Some k) × IsShort k short × NewBytes new ns others
    × (bytes ≡ length short + others)

-- what stood at p stands at q: it has moved by the sum of the changes of length of the numbers
-- before it
abbrev pub Moves : (ℕ → Option ℕ) → List DataIndexImm → ℕ → ℕ → Type 0
Moves new ns p q =
    (bytes : ℕ) × NewBytes new (before p ns) bytes × (q + old_bytes (before p ns) ≡ p + bytes)

-- so it is with each field
abbrev pub AllMove : (ℕ → Option ℕ) → List DataIndexImm → List ℕ → List ℕ → Type 0
AllMove new ns [] [] = Unit {0}
AllMove new ns [] (q ∷ qs) = ⊥
AllMove new ns (p ∷ ps) [] = ⊥
AllMove new ns (p ∷ ps) (q ∷ qs) = Moves new ns p q × AllMove new ns ps qs

-- ---- the operators

-- the first value, where it is a number, becomes its new number
abbrev pub renumbered_args : (ℕ → Option ℕ) → List ℤ → List ℤ
renumbered_args new [] = []
renumbered_args new (pos k ∷ zs) = pos (unwrap_or (new k) k) ∷ zs
renumbered_args new (negsuc k ∷ zs) = negsuc k ∷ zs

-- the same operator with the new number of its segment
abbrev pub renumbered : (ℕ → Option ℕ) → Op → Op
renumbered new op =
    record {
      code = op.code;
      sub = op.sub;
      args = if is_segment op.code op.sub then renumbered_args
          new op.args else op.args;
    }

-- ---- what is answered

-- What becomes of a body and fields in it: whether it has numbers, the rewritten body, and the
-- moved fields.
pub record IsRemapped (new : ℕ → Option ℕ) (fields : List ℕ) (answer : Bool × (List ℕ × List ℕ))
    (body : List ℕ) : Type 0 where
  pub numbers : List DataIndexImm
  pub theirs : AreTold numbers body
  pub some : answer.0 ≡ not (length numbers == 0)
  pub bytes : Rewrites new 0 numbers body answer.1.0
  pub places : AllMove new numbers fields answer.1.1

-- why it is refused: the body isn't decoded, or one of its numbers has no new one
abbrev pub RemapFault : (ℕ → Option ℕ) → ReadError → List ℕ → Type 0
RemapFault new e body =
    NumbersFault e body
    ⊎ ((ns : List DataIndexImm) × AreTold ns body × LacksIndex new ns × (e ≡ Malformed BadIndex))

-- What a call has answered that rewrites a body and moves fields in it, which are a pair before and
-- after: what becomes of them, or why it is refused.
abbrev pub Remaps : (ℕ → Option ℕ) → List ℕ × List ℕ → List ℕ × List ℕ → Result Bool ReadError
    → Type 0
Remaps new before after result =
    ReadsWhole (λ some. (some, after)) (IsRemapped new before.1) (RemapFault new) before.0 result

-- ---- on the way

-- the numbers lie from one place to another, one after the other, and two bytes at least before
-- each
abbrev pub LieWithin : ℕ → List DataIndexImm → ℕ → Type 0
LieWithin from [] to = from ≤ to
LieWithin from (n ∷ ns) to =
    (from + 2 ≤ n.offset) × (1 ≤ n.len) × LieWithin (n.offset + n.len) ns to

-- for each number where it ends, and where its new spelling ends; before them old has moved to
-- there
abbrev pub AreShifts : (ℕ → Option ℕ) → ℕ → ℕ → List DataIndexImm → List Shift → Type 0
AreShifts new old there [] [] = Unit {0}
AreShifts new old there [] (s ∷ ss) = ⊥
AreShifts new old there (n ∷ ns) [] = ⊥
AreShifts new old there (n ∷ ns) (s ∷ ss) = (s.old_end ≡ n.offset + n.len)
    × ((k : ℕ) × (short : List ℕ) × (new n.index ≡ Some k) × IsShort k short × (length short ≤ 5)
    × (s.new_end + old ≡ there + n.offset + length short))
    × AreShifts new s.old_end s.new_end ns ss

-- by the last shift that ends at p or before, p moves on; q is where it stands by those that were
-- looked at
abbrev pub shifted : List Shift → ℕ → ℕ → ℕ
shifted [] p q = q
shifted (s ∷ ss) p q = if nat_le s.old_end p then shifted ss p (s.new_end + (p - s.old_end)) else q

-- no end moves to more than seven thirds of its place
abbrev pub IsNear : Shift → Type 0
IsNear s = 3 * s.new_end ≤ 7 * s.old_end

-- the body is rewritten, and these are the shifts
abbrev pub IsRewriting : (ℕ → Option ℕ) → List DataIndexImm → List ℕ → List ℕ → List Shift → Type 0
IsRewriting new ns body bytes shifts = Rewrites new 0 ns body bytes × AreShifts new 0 0 ns shifts

-- why numbers aren't rewritten, unless memory ran out
abbrev pub RewriteFault : (ℕ → Option ℕ) → List DataIndexImm → ReadError → Type 0
RewriteFault new ns OutOfMemory = Unit {0}
RewriteFault new ns (Malformed why) = (why ≡ BadIndex) × LacksIndex new ns
RewriteFault new ns (Unsupported form) = ⊥
