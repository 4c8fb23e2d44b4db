-- The numbers of data segments in a body: of `memory.init` and `data.drop` (core specification,
-- "Memory Instructions").
use Rattle.std.specs.Prelude.{◌≡◌, ◌⊎◌, ℕ, ℤ, pos, ◌==◌, ◌||◌, ◌&&◌, Bool, true, false, List, [], ◌∷◌, ◌++◌, length, map, Option, Some, None, Result, Ok, Err}
use Rattle.std.specs.List.{filter_map}
use Rattle.std.specs.Option.{option_to_list}
use Rattle.wl_bytes.specs.Cursor.{Cursor}
use Rattle.wl_bytes.specs.Parse.{Takes}
use Rattle.wl_bytes.specs.Leb.{IsU32}
use Rattle.wl_bytes.specs.Grammar.{Then, ThenFault, then_at, Items, map_at}
use Rattle.wl_bytes.specs.declared.read_error.ReadError.{ReadError}
use Rattle.wl_bytes.specs.Outcome.{Fails}
use Rattle.wl_bytes.specs.Lists.{NumberFault, number_at}
use Rattle.wl_bytes.specs.Checks.{When, WhenFault, when_at, measured_at, Seen}
use Rattle.wl_ops.specs.declared.op.Op.{Op}
use Rattle.wl_ops.specs.declared.op.DataIndexImm.{DataIndexImm}
use Rattle.wl_ops.specs.declared.op.Marked.{Marked}
use Rattle.wl_ops.specs.Operators.{IsHead, HeadFault, head_at, taken_shape, IsBehindTaken, BehindFault, behind_at}
use Rattle.wl_ops.specs.Decoding.{AreLocals, is_ended, AreTaken, DecodeFault, ops_of, body_of}

-- `memory.init` and `data.drop`
abbrev pub is_segment : ℕ → ℕ → Bool
is_segment code sub = (code == 0xfc) && (sub == 8 || sub == 9)

-- a number that gives its place and its length
abbrev pub IsPlacedNumber : ℕ → DataIndexImm → List ℕ → Type 0
IsPlacedNumber place n text = IsU32 place n.index text × (n.offset ≡ place) × (n.len ≡ length text)

-- the number with its place
abbrev pub placed_number : ℕ → ℕ → ℕ → DataIndexImm
placed_number place len v = record { offset = place; len = len; index = v }

unfoldable pub placed_number_at : Cursor → Result (DataIndexImm × Cursor) ReadError
placed_number_at c = measured_at placed_number number_at c

-- the number of the segment, and for `memory.init` that of the memory
abbrev pub IsSegmentNumber : ℕ → ℕ → DataIndexImm × Option ℕ → List ℕ → Type 0
IsSegmentNumber sub = Then IsPlacedNumber (λ _. When IsU32 (sub == 8))

abbrev pub SegmentNumberFault : ℕ → ReadError → Cursor → Type 0
SegmentNumberFault sub =
    ThenFault IsPlacedNumber NumberFault (λ _. WhenFault NumberFault (sub == 8))

unfoldable pub segment_number_at : ℕ → Cursor
    → Result ((DataIndexImm × Option ℕ) × Cursor) ReadError
segment_number_at sub c = then_at placed_number_at (λ _. when_at number_at (sub == 8)) c

-- the values of these
abbrev pub segment_args : DataIndexImm × Option ℕ → List ℤ
segment_args p = pos p.0.index ∷ map (λ n. pos n) (option_to_list p.1)

-- ---- operators with their numbers

abbrev pub with_number : DataIndexImm × Option ℕ → Option DataIndexImm × List ℤ
with_number p = (Some p.0, segment_args p)

abbrev pub without_number : List ℤ → Option DataIndexImm × List ℤ
without_number zs = (None, zs)

-- what follows a first byte and its number
abbrev pub IsMarkedBehind : Bool → ℕ × ℕ → ℕ → Option DataIndexImm × List ℤ → List ℕ → Type 0
IsMarkedBehind true h = Seen (IsSegmentNumber h.1) with_number
IsMarkedBehind false h = Seen (IsBehindTaken (taken_shape h)) without_number

abbrev pub MarkedBehindFault : Bool → ℕ × ℕ → ReadError → Cursor → Type 0
MarkedBehindFault true h = SegmentNumberFault h.1
MarkedBehindFault false h = BehindFault (taken_shape h)

abbrev pub marked_behind_at : Bool → ℕ × ℕ → Cursor
    → Result ((Option DataIndexImm × List ℤ) × Cursor) ReadError
marked_behind_at true h c = map_at with_number (segment_number_at h.1) c
marked_behind_at false h c = map_at without_number (behind_at (taken_shape h)) c

-- an operator that is taken, and the number of a segment in it
abbrev pub IsMarkedOp : ℕ → Marked → List ℕ → Type 0
IsMarkedOp place m text =
    Then IsHead (λ h. IsMarkedBehind (is_segment h.0 h.1) h) place
    ((m.op.code, m.op.sub), (m.number, m.op.args)) text

abbrev pub MarkedFault : ReadError → Cursor → Type 0
MarkedFault = ThenFault IsHead HeadFault (λ h. MarkedBehindFault (is_segment h.0 h.1) h)

abbrev pub marked_of : (ℕ × ℕ) × (Option DataIndexImm × List ℤ) → Marked
marked_of p = record { op = record { code = p.0.0; sub = p.0.1; args = p.1.1 }; number = p.1.0 }

unfoldable pub marked_at : Cursor → Result (Marked × Cursor) ReadError
marked_at c = map_at marked_of (then_at head_at (λ h. marked_behind_at (is_segment h.0 h.1) h)) c

-- ---- bodies

abbrev pub op_in : Marked → Op
op_in m = m.op

-- the numbers of some operators, in order
abbrev pub numbers : List Marked → List DataIndexImm
numbers ms = filter_map (λ m. m.number) ms

-- a body of operators with their numbers
abbrev pub AreMarked : List Marked → List ℕ → Type 0
AreMarked ms body =
    (locals : List (ℕ × ℕ)) × (front : List ℕ) × (back : List ℕ) × (body ≡ front ++ back)
    × AreLocals 0 locals front × Items IsMarkedOp (length front) ms back
    × (is_ended (map op_in ms) ≡ true)

-- the numbers of a body; none where the body can't be decoded
abbrev pub HasNumbers : List DataIndexImm → List ℕ → Type 0
HasNumbers ns body =
    ((ms : List Marked) × AreMarked ms body × (ns ≡ numbers ms))
    ⊎ (((ops : List Op) → ¬ AreTaken ops body) × (ns ≡ []))

-- ---- what is answered

-- a byte 0xfc stands somewhere
abbrev pub holds_prefix : List ℕ → Bool
holds_prefix [] = false
holds_prefix (b ∷ bs) = b == 0xfc || holds_prefix bs

-- a byte 0xfc stands in the body, and this is why it isn't decoded
abbrev pub NumbersFault : ReadError → List ℕ → Type 0
NumbersFault e body = (holds_prefix body ≡ true) × DecodeFault e body

-- the numbers of a body of which no fault is reported
abbrev pub AreTold : List DataIndexImm → List ℕ → Type 0
AreTold ns body = HasNumbers ns body × ((e : ReadError) → ¬ NumbersFault e body)

-- what a reader has answered: the numbers of the operators up to the end of the bytes, or the fault
abbrev pub NumbersIn : {X : Type 0} → (X → List DataIndexImm) → Cursor → Result X ReadError → Type 0
NumbersIn view from (Ok v) =
    (ms : List Marked) × (to : Cursor) × Takes (Items IsMarkedOp) ms from to × (to.rest ≡ [])
    × (is_ended (map op_in ms) ≡ true) × (view v ≡ numbers ms)
NumbersIn view from (Err e) = Fails e (ops_of from)

-- the same of a whole body
abbrev pub NumbersOf : {X : Type 0} → (X → List DataIndexImm) → List ℕ → Result X ReadError → Type 0
NumbersOf view body (Ok v) = (ms : List Marked) × AreMarked ms body × (view v ≡ numbers ms)
NumbersOf view body (Err e) = Fails e (body_of body)
