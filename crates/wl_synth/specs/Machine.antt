-- A machine that runs bodies without loops by their operators (core specification, "Execution"; for
-- those with the prefix 0xfe the threads proposal).
use Rattle.std.specs.Prelude.{◌≡◌, ℕ, ℤ, pos, negsuc, zero, suc, ◌+◌, ◌-◌, ◌*◌, ◌/◌, ◌%◌, ◌==◌, nat_le, min, Bool, true, false, ◌&&◌, if◌then◌else◌, List, [], ◌∷◌, ◌++◌, length, take, drop, reverse, replicate, slice_get, slice_set, Option, Some, None}
use Rattle.wl_module.specs.declared.types.ValType.{ValType}
use Rattle.wl_module.specs.declared.types.ValType.TheVariants.{I32 as I32Type, I64 as I64Type}
use Rattle.wl_module.specs.Types.{FunctionType}
use Rattle.wl_ops.specs.declared.op.Op.{Op}
use Rattle.wl_ops.specs.Decoding.{AreOps}
use Rattle.wl_ops.specs.Standing.{window}

-- ---- values

-- a number of 32 or of 64 bits
pub data Value : Type 0 where
  I32 : ℕ → Value
  I64 : ℕ → Value

-- two values of one width
abbrev pub same_width : Value → Value → Bool
same_width (I32 a) (I32 b) = true
same_width (I64 a) (I64 b) = true
same_width (I32 a) (I64 b) = false
same_width (I64 a) (I32 b) = false

-- the type of a value
abbrev pub has_type : Value → ValType → Bool
has_type (I32 n) I32Type = true
has_type (I64 n) I64Type = true
has_type v t = false

-- values have these types
abbrev pub have_types : List Value → List ValType → Bool
have_types [] [] = true
have_types (v ∷ vs) (t ∷ ts) = has_type v t && have_types vs ts
have_types [] (t ∷ ts) = false
have_types (v ∷ vs) [] = false

-- the bits of a signed number, modulo a power of 2
abbrev pub wrapped : ℕ → ℤ → ℕ
wrapped size (pos n) = n % size
wrapped size (negsuc n) = (size - 1) - n % size

-- the sum of two numbers of 32 bits
abbrev pub i32_sum : ℕ → ℕ → ℕ
i32_sum a b = (a + b) % 4294967296

-- ---- memory

-- bytes at a place over those of a list
abbrev pub overlay : ℕ → List ℕ → List ℕ → List ℕ
overlay at bytes memory = take at memory ++ (bytes ++ drop (at + length bytes) memory)

-- a number of 32 bits as four bytes, the lowest first
abbrev pub i32_bytes : ℕ → List ℕ
i32_bytes n = (n % 256) ∷ (n / 256 % 256) ∷ (n / 65536 % 256) ∷ (n / 16777216 % 256) ∷ []

-- the number of such bytes
abbrev pub i32_of : List ℕ → ℕ
i32_of [] = 0
i32_of (b ∷ bs) = b + 256 * i32_of bs

-- the number that stands at a place
abbrev pub i32_at : ℕ → List ℕ → ℕ
i32_at at memory = i32_of (window at 4 memory)

-- the bytes of a segment; a dropped one has none
abbrev pub left_bytes : Option (List ℕ) → List ℕ
left_bytes None = []
left_bytes (Some bytes) = bytes

-- ---- states

-- an open block, or the function: how many values it has to leave, and the values below it
pub record Label : Type 0 where
  pub results : ℕ
  pub below : List Value

-- a call that was made: the function, and its arguments in order
pub record Call : Type 0 where
  pub function : ℕ
  pub arguments : List Value

-- A function that runs, with its parameters and other locals. On the stack, the topmost first, are
-- the values of the innermost open block alone. Where `skipped` isn't 0, operators are passed over
-- up to so many ends, and one more for each block that opens on the way.
pub record State : Type 0 where
  pub stack : List Value
  pub locals : List Value
  pub globals : List Value
  pub memory : List ℕ
  pub segments : List (Option (List ℕ))
  pub labels : List Label
  pub calls : List Call
  pub skipped : ℕ

-- The module round a function: the types of functions, which globals may be set, whether memory is
-- shared, what calls answer by all that were made, and how many threads wait at a place in memory.
pub record World : Type 0 where
  pub type_of : ℕ → Option FunctionType
  pub is_mutable : ℕ → Bool
  pub is_shared : Bool
  pub answer : List Call → List Value
  pub waiting : ℕ → ℕ

-- how a function ends: at its end, by a trap, or waiting for another thread
pub data Outcome : Type 0 where
  Done : State → Outcome
  Trap : State → Outcome
  Waits : State → Outcome

-- a function goes on, it has ended, or there is no outcome
pub data Progress : Type 0 where
  Going : State → Progress
  Ended : Outcome → Progress
  Stuck : Progress

-- ---- the operators that the machine knows

-- an operator with the immediates that matter
pub data Instruction : Type 0 where
  Unreachable : Instruction
  OpenBlock : ℕ → Instruction
  EndBlock : Instruction
  Branch : ℕ → Instruction
  BranchBy : List ℤ → Instruction
  CallFunction : ℕ → Instruction
  DropValue : Instruction
  GetLocal : ℕ → Instruction
  GetGlobal : ℕ → Instruction
  SetGlobal : ℕ → Instruction
  PutWord : ℕ → Instruction
  PushWord : ℤ → Instruction
  PushLong : ℤ → Instruction
  AddWords : Instruction
  CopySegment : ℕ → Instruction
  DropSegment : ℕ → Instruction
  FillMemory : Instruction
  Notify : ℕ → Instruction
  Wait : ℕ → Instruction
  PutWordAtomic : ℕ → Instruction
  Exchange : ℕ → Instruction
  Unknown : Instruction

-- with one number
abbrev pub with_index : (ℕ → Instruction) → List ℤ → Instruction
with_index f (pos n ∷ []) = f n
with_index f _ = Unknown

-- with one signed number
abbrev pub with_signed : (ℤ → Instruction) → List ℤ → Instruction
with_signed f (z ∷ []) = f z
with_signed f _ = Unknown

-- with an exponent of an alignment that passes the test, and an offset
abbrev pub with_offset : (ℕ → Bool) → (ℕ → Instruction) → List ℤ → Instruction
with_offset test f (pos n ∷ pos offset ∷ []) = if test n then f offset else Unknown
with_offset test f _ = Unknown

-- with no type, or one value type: types by number aren't known
abbrev pub with_block_type : List ℤ → Instruction
with_block_type (negsuc n ∷ []) = OpenBlock (if n == 63 then 0 else 1)
with_block_type _ = Unknown

-- of memory 0 alone
abbrev pub in_memory : Instruction → List ℤ → Instruction
in_memory i (pos zero ∷ []) = i
in_memory i _ = Unknown

-- with a segment's number, of memory 0 alone
abbrev pub with_segment : (ℕ → Instruction) → List ℤ → Instruction
with_segment f (pos n ∷ zs) = in_memory (f n) zs
with_segment f _ = Unknown

abbrev pub plain_instruction : ℕ → List ℤ → Instruction
plain_instruction code args =
    if code == 0x00 then Unreachable
    else if code == 0x02 then with_block_type args
    else if code == 0x0b then EndBlock
    else if code == 0x0c then with_index Branch args
    else if code == 0x0e then BranchBy args
    else if code == 0x10 then with_index CallFunction args
    else if code == 0x1a then DropValue
    else if code == 0x20 then with_index GetLocal args
    else if code == 0x23 then with_index GetGlobal args
    else if code == 0x24 then with_index SetGlobal args
    else if code == 0x36 then with_offset (λ n. nat_le n 2) PutWord args
    else if code == 0x41 then with_signed PushWord args
    else if code == 0x42 then with_signed PushLong args
    else if code == 0x6a then AddWords
    else Unknown

abbrev pub bulk_instruction : ℕ → List ℤ → Instruction
bulk_instruction sub args =
    if sub == 8 then with_segment CopySegment args
    else if sub == 9 then with_index DropSegment args
    else if sub == 11 then in_memory FillMemory args
    else Unknown

abbrev pub thread_instruction : ℕ → List ℤ → Instruction
thread_instruction sub args =
    if sub == 0x00 then with_offset (λ n. n == 2) Notify args
    else if sub == 0x01 then with_offset (λ n. n == 2) Wait args
    else if sub == 0x17 then with_offset (λ n. n == 2) PutWordAtomic args
    else if sub == 0x48 then with_offset (λ n. n == 2) Exchange args
    else Unknown

unfoldable pub instruction : Op → Instruction
instruction op =
    if op.code == 0xfc then bulk_instruction op.sub op.args
    else if op.code == 0xfe then thread_instruction op.sub op.args
    else plain_instruction op.code op.args

-- ---- the stack

-- with another stack
abbrev pub with_stack : List Value → State → State
with_stack stack s = record s { stack = stack }

-- one more value
abbrev pub pushed : Value → State → Progress
pushed v s = Going (with_stack (v ∷ s.stack) s)

-- the value that was looked up, if there is one
abbrev pub push_found : Option Value → State → Progress
push_found None s = Stuck
push_found (Some v) s = pushed v s

-- takes the topmost value
abbrev pub take_from : List Value → (Value → State → Progress) → State → Progress
take_from [] f s = Stuck
take_from (v ∷ rest) f s = f v (with_stack rest s)

abbrev pub take_value : (Value → State → Progress) → State → Progress
take_value f s = take_from s.stack f s

-- goes on with a number of 32 bits, of 64 bits
abbrev pub if_word : (ℕ → State → Progress) → Value → State → Progress
if_word f (I32 n) s = f n s
if_word f (I64 n) s = Stuck

abbrev pub if_long : (ℕ → State → Progress) → Value → State → Progress
if_long f (I32 n) s = Stuck
if_long f (I64 n) s = f n s

-- takes one, two or three numbers of 32 bits, the topmost last
abbrev pub take_word : (ℕ → State → Progress) → State → Progress
take_word f s = take_value (if_word f) s

abbrev pub take_two : (ℕ → ℕ → State → Progress) → State → Progress
take_two f s = take_word (λ b. take_word (λ a. f a b)) s

abbrev pub take_three : (ℕ → ℕ → ℕ → State → Progress) → State → Progress
take_three f s = take_word (λ c. take_two (λ a b. f a b c)) s

-- ---- blocks

-- what was left is a block, or the function
abbrev pub left_block : List Label → State → Progress
left_block [] s = Ended (Done (record s { labels = [] }))
left_block (l ∷ ls) s = Going (record s { labels = l ∷ ls })

-- the innermost block ends, with as many values as it has to leave, which stay above those below it
abbrev pub at_end : List Label → State → Progress
at_end [] s = Stuck
at_end (l ∷ ls) s =
    if length s.stack == l.results then left_block ls (with_stack (s.stack ++ l.below) s) else Stuck

-- the target keeps the topmost values that it has to leave, and operators are passed over up to its
-- end
abbrev pub leave_to : List Label → ℕ → State → Progress
leave_to [] n s = Stuck
leave_to (l ∷ ls) n s =
    if nat_le l.results (length s.stack)
    then Going (record s { stack = take l.results s.stack; labels = l ∷ ls; skipped = suc n })
    else Stuck

-- to the n-th label, from the innermost on
abbrev pub branch : ℕ → State → Progress
branch n s = leave_to (drop n s.labels) n s

-- to the i-th of some labels, or to the last one
abbrev pub branch_among : List ℤ → ℕ → State → Progress
branch_among [] i s = Stuck
branch_among (negsuc n ∷ zs) i s = Stuck
branch_among (pos n ∷ []) i s = branch n s
branch_among (pos n ∷ z ∷ zs) zero s = branch n s
branch_among (pos n ∷ z ∷ zs) (suc i) s = branch_among (z ∷ zs) i s

-- the labels follow their count
abbrev pub branch_by : List ℤ → ℕ → State → Progress
branch_by [] i s = Stuck
branch_by (count ∷ zs) i s = branch_among zs i s

-- ---- effects

-- where the test fails, a trap
abbrev pub unless_trap : Bool → State → Progress → Progress
unless_trap true s next = next
unless_trap false s next = Ended (Trap s)

-- a call takes its arguments and is noted, and its results are left
abbrev pub called : World → ℕ → Option FunctionType → State → Progress
called w f None s = Stuck
called w f (Some t) s =
    let arguments = reverse (take (length t.params) s.stack) in
    let calls = s.calls ++ record { function = f; arguments = arguments } ∷ [] in
    let results = w.answer calls in
    if have_types arguments t.params && have_types results t.results
    then Going (record s {
      stack = reverse results ++ drop (length t.params) s.stack;
      calls = calls;
    })
    else Stuck

-- a global that may be set takes a value of its width
abbrev pub set_global : Bool → Option Value → ℕ → Value → State → Progress
set_global false old i v s = Stuck
set_global true None i v s = Stuck
set_global true (Some old) i v s =
    if same_width v old then Going (record s { globals = slice_set s.globals i v }) else Stuck

-- bytes are written, unless they reach out of memory
abbrev pub written : ℕ → List ℕ → State → Progress
written at bytes s =
    unless_trap (nat_le (at + length bytes) (length s.memory)) s
    (Going (record s { memory = overlay at bytes s.memory }))

-- n bytes of a segment are copied
abbrev pub copied : ℕ → ℕ → ℕ → Option (Option (List ℕ)) → State → Progress
copied to from n None s = Stuck
copied to from n (Some segment) s =
    unless_trap
    (nat_le (from + n) (length (left_bytes segment)) && nat_le (to + n) (length s.memory)) s
    (Going (record s { memory = overlay to (window from n (left_bytes segment)) s.memory }))

abbrev pub dropped : ℕ → Option (Option (List ℕ)) → State → Progress
dropped k None s = Stuck
dropped k (Some segment) s = Going (record s { segments = slice_set s.segments k None })

-- n bytes are filled with the lowest byte of a number
abbrev pub filled_with : ℕ → ℕ → ℕ → State → Progress
filled_with n to v s =
    unless_trap (nat_le (to + n) (length s.memory)) s
    (Going (record s { memory = overlay to (replicate n (v % 256)) s.memory }))

-- four bytes at a multiple of 4 that lie in memory
abbrev pub is_word : ℕ → List ℕ → Bool
is_word at memory = (at % 4 == 0) && nat_le (at + 4) (length memory)

-- what is done at such a place, and else a trap
abbrev pub at_word : ℕ → (State → Progress) → State → Progress
at_word at f s = unless_trap (is_word at s.memory) s (f s)

-- at most n of those who wait are woken; none waits where memory isn't shared
abbrev pub woken : World → ℕ → ℕ → ℕ
woken w at n = if w.is_shared then min (w.waiting at) n else 0

-- waits, whatever the timeout, where the expected number stands, and else leaves 1; a trap where
-- memory isn't shared
abbrev pub waits_at : World → ℕ → ℕ → State → Progress
waits_at w at expected s =
    unless_trap w.is_shared s
    (if i32_at at s.memory == expected then Ended (Waits s) else pushed (I32 1) s)

-- where the old number stands the new one is written, and what stood there is left
abbrev pub exchanged : ℕ → ℕ → ℕ → State → Progress
exchanged at old new s =
    let found = i32_at at s.memory in
    Going (record s {
      stack = I32 found ∷ s.stack;
      memory = if found == old then overlay at (i32_bytes new) s.memory else s.memory;
    })

-- ---- steps

-- a block opens, which has no values yet
abbrev pub opened : ℕ → State → State
opened results s =
    record s { stack = []; labels = record { results = results; below = s.stack } ∷ s.labels }

-- an operator that isn't passed over
abbrev pub exec : World → Instruction → State → Progress
exec w Unreachable s = Ended (Trap s)
exec w (OpenBlock results) s = Going (opened results s)
exec w EndBlock s = at_end s.labels s
exec w (Branch n) s = branch n s
exec w (BranchBy zs) s = take_word (branch_by zs) s
exec w (CallFunction f) s = called w f (w.type_of f) s
exec w DropValue s = take_value (λ v. Going) s
exec w (GetLocal i) s = push_found (slice_get s.locals i) s
exec w (GetGlobal i) s = push_found (slice_get s.globals i) s
exec w (SetGlobal i) s = take_value (set_global (w.is_mutable i) (slice_get s.globals i) i) s
exec w (PutWord offset) s = take_two (λ a v. written (a + offset) (i32_bytes v)) s
exec w (PushWord z) s = pushed (I32 (wrapped 4294967296 z)) s
exec w (PushLong z) s = pushed (I64 (wrapped 18446744073709551616 z)) s
exec w AddWords s = take_two (λ a b. pushed (I32 (i32_sum a b))) s
exec w (CopySegment k) s = take_three (λ to from n. copied to from n (slice_get s.segments k)) s
exec w (DropSegment k) s = dropped k (slice_get s.segments k) s
exec w FillMemory s = take_three (λ to v n. filled_with n to v) s
exec w (Notify offset) s =
    take_two (λ a n. at_word (a + offset) (pushed (I32 (woken w (a + offset) n)))) s
exec w (Wait offset) s =
    take_value (if_long (λ timeout. take_two (λ a e.
    at_word (a + offset) (waits_at w (a + offset) e)))) s
exec w (PutWordAtomic offset) s =
    take_two (λ a v. at_word (a + offset) (written (a + offset) (i32_bytes v))) s
exec w (Exchange offset) s =
    take_three (λ a old new. at_word (a + offset) (exchanged (a + offset) old new)) s
exec w Unknown s = Stuck

-- the end that was looked for
abbrev pub pass_end : ℕ → State → Progress
pass_end zero s = at_end s.labels (record s { skipped = 0 })
pass_end (suc n) s = Going (record s { skipped = suc n })

-- an operator that is passed over, with n ends to come beside the one that is looked for
abbrev pub pass : Instruction → ℕ → State → Progress
pass (OpenBlock results) n s = Going (record s { skipped = suc (suc n) })
pass EndBlock n s = pass_end n s
pass Unknown n s = Stuck
pass i n s = Going (record s { skipped = suc n })

abbrev pub exec_or_pass : World → Instruction → ℕ → State → Progress
exec_or_pass w i zero s = exec w i s
exec_or_pass w i (suc n) s = pass i n s

-- one operator
unfoldable pub step : World → Op → State → Progress
step w op s = exec_or_pass w (instruction op) s.skipped s

-- ---- runs

-- one more operator; after the function's end none may stand
abbrev pub stepped : World → Op → Progress → Progress
stepped w op (Going s) = step w op s
stepped w op (Ended (Done s)) = Stuck
stepped w op (Ended (Trap s)) = Ended (Trap s)
stepped w op (Ended (Waits s)) = Ended (Waits s)
stepped w op Stuck = Stuck

-- a step for each operator
abbrev pub go : World → Progress → List Op → Progress
go w o [] = o
go w o (op ∷ ops) = go w (stepped w op o) ops

-- a function with so many results is entered
abbrev pub entered : ℕ → State → State
entered results s =
    record s { stack = []; labels = record { results = results; below = [] } ∷ []; skipped = 0 }

-- a body of a function with so many results, by its operators, has this outcome
abbrev pub Runs : World → ℕ → List ℕ → State → Outcome → Type 0
Runs w results body s o =
    (ops : List Op) × AreOps ops body × (go w (Going (entered results s)) ops ≡ Ended o)
