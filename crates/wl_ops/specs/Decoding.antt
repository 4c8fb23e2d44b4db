-- Bodies of functions (core specification, "Code Section"): local declarations, and operators to
-- the end.
use Rattle.std.specs.Prelude.{◌≡◌, ◌≢◌, ◌⊎◌, ℕ, zero, suc, ◌+◌, ◌==◌, Bool, true, false, if◌then◌else◌, List, [], ◌∷◌, ◌++◌, length, Result, Ok, Err}
use Rattle.std.specs.List.{AllByRecursion, sum_by}
use Rattle.wl_bytes.specs.Cursor.{Cursor}
use Rattle.wl_bytes.specs.Parse.{Takes, ◌>>=◌}
use Rattle.wl_bytes.specs.Leb.{IsU32}
use Rattle.wl_bytes.specs.Items.{IsByte}
use Rattle.wl_bytes.specs.Grammar.{Then, ThenFault, then_at, Items, error_of}
use Rattle.wl_bytes.specs.declared.read_error.Why.TheVariants.{Truncated, BadByte, Body}
use Rattle.wl_bytes.specs.declared.read_error.ReadError.{ReadError}
use Rattle.wl_bytes.specs.declared.read_error.ReadError.TheVariants.{OutOfMemory, Malformed, Unsupported}
use Rattle.wl_bytes.specs.Lists.{NumberFault, number_at, ByteFault, one_byte_at, Listed, ListedFault, list_at, start}
use Rattle.wl_bytes.specs.Checks.{Where, WhereFault, unless, where_at, Any, any_at}
use Rattle.wl_ops.specs.declared.op.Op.{Op}
use Rattle.wl_ops.specs.Immediates.{is_value_type}
use Rattle.wl_ops.specs.Operators.{IsOp, IsTaken, is_taken, OpFault, op_at}

-- ---- local declarations

-- how many locals, and the byte of their type
abbrev pub IsLocal : ℕ → ℕ × ℕ → List ℕ → Type 0
IsLocal = Then IsU32 (λ _. Where IsByte is_value_type)

-- what is wrong where no declaration stands
abbrev pub LocalFault : ReadError → Cursor → Type 0
LocalFault =
    ThenFault IsU32 NumberFault (λ _. WhereFault IsByte ByteFault
    (unless is_value_type (Malformed BadByte)))

-- the next declaration
unfoldable pub local_at : Cursor → Result ((ℕ × ℕ) × Cursor) ReadError
local_at c = then_at number_at (λ _. where_at one_byte_at is_value_type (Malformed BadByte)) c

-- the local declarations of a body
abbrev pub AreLocals : ℕ → List (ℕ × ℕ) → List ℕ → Type 0
AreLocals = Listed IsLocal

abbrev pub LocalsFault : ReadError → Cursor → Type 0
LocalsFault = ListedFault IsLocal LocalFault

-- ---- operators to the end

-- the last operator is 0x0b, `end`
abbrev pub is_ended : List Op → Bool
is_ended [] = false
is_ended (op ∷ []) = op.code == 0x0b
is_ended (op ∷ next ∷ ops) = is_ended (next ∷ ops)

-- a body of such operators
abbrev pub IsBodyOf : (ℕ → Op → List ℕ → Type 0) → List Op → List ℕ → Type 0
IsBodyOf op ops body =
    (locals : List (ℕ × ℕ)) × (front : List ℕ) × (back : List ℕ) × (body ≡ front ++ back)
    × AreLocals 0 locals front × Items op (length front) ops back × (is_ended ops ≡ true)

-- a body of operators of the table
abbrev pub AreOps : List Op → List ℕ → Type 0
AreOps = IsBodyOf IsOp

-- the same without operators on element segments
abbrev pub AreTaken : List Op → List ℕ → Type 0
AreTaken ops body = AreOps ops body × AllByRecursion (λ op. is_taken op ≡ true) ops

-- after some operators comes something else, or all are read and the last isn't `end`
abbrev pub OpsFault : ReadError → Cursor → Type 0
OpsFault e from = (ops : List Op) × (mid : Cursor) × Takes (Items IsTaken) ops from mid
    × (((mid.rest ≢ []) × OpFault e mid)
    ⊎ ((mid.rest ≡ []) × (is_ended ops ≡ false) × (e ≡ Malformed Truncated)))

-- the local declarations are at fault, or what comes after them is
abbrev pub PartFault : ReadError → List ℕ → Type 0
PartFault e body = ThenFault (Any AreLocals) LocalsFault (λ _. OpsFault) e (start body)

-- a broken rule of the format is reported as that of a body
abbrev pub in_body : ReadError → ReadError
in_body OutOfMemory = OutOfMemory
in_body (Malformed why) = Malformed Body
in_body (Unsupported form) = Unsupported form

-- why a body isn't decoded
abbrev pub DecodeFault : ReadError → List ℕ → Type 0
DecodeFault e body = (d : ReadError) × (e ≡ in_body d) × PartFault d body

-- how many operators there are, and immediates of them all
abbrev pub list_items : List Op → ℕ
list_items ops = sum_by (λ op. 1 + length op.args) ops

-- ---- reading

-- what passes the test, or the error
abbrev pub kept_if : List Op → Result (List Op) ReadError
kept_if ops = if is_ended ops then Ok ops else Err (Malformed Truncated)

-- reads at most n items, to the end of the bytes
unfoldable pub rest_of : {X E : Type 0} → (Cursor → Result (X × Cursor) E) → E → ℕ → Cursor
    → Result (List X) E
rest_of item dry zero c = Err dry
rest_of item dry (suc n) c =
    if length c.rest == 0 then Ok []
    else item c >>= λ p. rest_of item dry n p.1 >>= λ xs. Ok (p.0 ∷ xs)

-- the operators up to the end of the bytes
unfoldable pub ops_of : Cursor → Result (List Op) ReadError
ops_of c = rest_of op_at (Malformed Truncated) (suc (length c.rest)) c >>= kept_if

-- the operators of a body
unfoldable pub body_of : List ℕ → Result (List Op) ReadError
body_of body = any_at (list_at local_at) (start body) >>= λ p. ops_of p.1

-- the same, with a fault as it is reported
abbrev pub decoded : List ℕ → Result (List Op) ReadError
decoded body = error_of in_body (body_of body)
