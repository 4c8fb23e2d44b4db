-- Operators: a first byte, for some a number, and immediates by the table.
use Rattle.std.specs.Prelude.{◌≡◌, ℕ, ℤ, Bool, not, if◌then◌else◌, List, Option, Some, None, Result, Ok, Err}
use Rattle.std.specs.Option.{unwrap_or}
use Rattle.wl_bytes.specs.Cursor.{Cursor}
use Rattle.wl_bytes.specs.Leb.{IsU32}
use Rattle.wl_bytes.specs.Items.{IsByte}
use Rattle.wl_bytes.specs.Grammar.{Then, ThenFault, then_at, map_at}
use Rattle.wl_bytes.specs.declared.read_error.Why.TheVariants.{BadByte}
use Rattle.wl_bytes.specs.declared.read_error.Form.TheVariants.{Operator, ElementOperator}
use Rattle.wl_bytes.specs.declared.read_error.ReadError.{ReadError}
use Rattle.wl_bytes.specs.declared.read_error.ReadError.TheVariants.{Malformed, Unsupported}
use Rattle.wl_bytes.specs.Lists.{NumberFault, number_at, ByteFault, one_byte_at}
use Rattle.wl_bytes.specs.Checks.{Where, When, WhenFault, when_at, Seen}
use Rattle.wl_ops.specs.declared.table.Shape.{Shape}
use Rattle.wl_ops.specs.declared.op.Op.{Op}
use Rattle.wl_ops.specs.Table.{immediates, is_prefix, is_untaken, is_element, shape_of}
use Rattle.wl_ops.specs.Immediates.{AreImmediates, ImmediatesFault, immediates_at}

-- ---- the first byte and the number

-- 0 where there is no number
abbrev pub sub_of : Option ℕ → ℕ
sub_of o = unwrap_or o 0

-- the number after a first byte
abbrev pub IsSub : ℕ → ℕ → ℕ → List ℕ → Type 0
IsSub code = Seen (When IsU32 (is_prefix code)) sub_of

abbrev pub SubFault : ℕ → ReadError → Cursor → Type 0
SubFault code = WhenFault NumberFault (is_prefix code)

unfoldable pub sub_at : ℕ → Cursor → Result (ℕ × Cursor) ReadError
sub_at code c = map_at sub_of (when_at number_at (is_prefix code)) c

-- the first byte and the number
abbrev pub IsHead : ℕ → ℕ × ℕ → List ℕ → Type 0
IsHead = Then IsByte IsSub

abbrev pub HeadFault : ReadError → Cursor → Type 0
HeadFault = ThenFault IsByte ByteFault SubFault

unfoldable pub head_at : Cursor → Result ((ℕ × ℕ) × Cursor) ReadError
head_at c = then_at one_byte_at sub_at c

-- ---- operators

-- what follows an operator that the table has
abbrev pub IsBehind : Option Shape → ℕ → List ℤ → List ℕ → Type 0
IsBehind None place zs text = ⊥
IsBehind (Some shape) place zs text = AreImmediates (immediates shape) place zs text

-- an operator of the table
abbrev pub IsOp : ℕ → Op → List ℕ → Type 0
IsOp place op text =
    Then IsHead (λ h. IsBehind (shape_of h.0 h.1)) place ((op.code, op.sub), op.args) text

-- no operator on element segments
abbrev pub is_taken : Op → Bool
is_taken op = not (is_element op.code op.sub)

-- an operator of the table that is taken
abbrev pub IsTaken : ℕ → Op → List ℕ → Type 0
IsTaken = Where IsOp is_taken

-- why an operator that the table lacks is refused
abbrev pub no_operator : ℕ → ReadError
no_operator code = if is_untaken code then Unsupported Operator else Malformed BadByte

-- the shape of an operator in the table, or why there is none
abbrev pub shape_or : ℕ → Option Shape → Result Shape ReadError
shape_or code None = Err (no_operator code)
shape_or code (Some shape) = Ok shape

-- the shape of an operator that is taken
unfoldable pub taken_shape : ℕ × ℕ → Result Shape ReadError
taken_shape h =
    if is_element h.0 h.1 then Err (Unsupported ElementOperator)
    else shape_or h.0 (shape_of h.0 h.1)

-- what follows an operator that is taken
abbrev pub IsBehindTaken : Result Shape ReadError → ℕ → List ℤ → List ℕ → Type 0
IsBehindTaken (Ok shape) place zs text = AreImmediates (immediates shape) place zs text
IsBehindTaken (Err d) place zs text = ⊥

-- the operator itself is at fault, or an immediate is
abbrev pub BehindFault : Result Shape ReadError → ReadError → Cursor → Type 0
BehindFault (Ok shape) e from = ImmediatesFault (immediates shape) e from
BehindFault (Err d) e from = e ≡ d

-- what is wrong where no operator stands that is taken
abbrev pub OpFault : ReadError → Cursor → Type 0
OpFault = ThenFault IsHead HeadFault (λ h. BehindFault (taken_shape h))

abbrev pub behind_at : Result Shape ReadError → Cursor → Result (List ℤ × Cursor) ReadError
behind_at (Ok shape) c = immediates_at (immediates shape) c
behind_at (Err d) c = Err d

-- an operator of these parts
abbrev pub op_of : (ℕ × ℕ) × List ℤ → Op
op_of p = record { code = p.0.0; sub = p.0.1; args = p.1 }

-- the next operator
unfoldable pub op_at : Cursor → Result (Op × Cursor) ReadError
op_at c = map_at op_of (then_at head_at (λ h. behind_at (taken_shape h))) c
