-- How the operators of made bodies are spelled: each number in its shortest form.
use Rattle.std.specs.Prelude.{◌≡◌, ℕ, ℤ, pos, negsuc, ◌==◌, if◌then◌else◌, List, [], ◌∷◌, ◌++◌, map, Option, Some, None}
use Rattle.wl_bytes.specs.Leb.{IsShortestSleb, IsWithin}
use Rattle.wl_ops.specs.declared.op.Op.{Op}
use Rattle.wl_ops.specs.Table.{is_prefix}
use Rattle.wl_ops.specs.Rewriting.{IsShort}
use Rattle.wl_synth.specs.declared.operator.Operator.{Operator}
use Rattle.wl_synth.specs.declared.operator.Operator.TheVariants.{Block, End, Br, BrTable, Call, Drop, LocalGet, GlobalGet, GlobalSet, I32Store, I32Const, I32Unsigned, I64Const, I32Add, MemoryInit, DataDrop, MemoryFill, MemoryAtomicNotify, MemoryAtomicWait32, I32AtomicStore, I32AtomicRmwCmpxchg}
use Rattle.wl_synth.specs.Wat as wat

-- ---- immediates

-- how many bits a signed immediate has beside its sign: a constant, and the type of a block; none
-- where immediates are unsigned
abbrev pub signed_bits : ℕ → Option ℕ
signed_bits code =
    if code == 0x41 then Some 31
    else if code == 0x42 then Some 63
    else if code == 0x02 then Some 32
    else None

-- the shortest spelling of an immediate of so many bits beside its sign, or of an unsigned one
abbrev pub IsShortImmediate : Option ℕ → ℤ → List ℕ → Type 0
IsShortImmediate None (pos n) text = IsShort n text
IsShortImmediate None (negsuc n) text = ⊥
IsShortImmediate (Some bits) z text = IsWithin bits z × IsShortestSleb z text

-- of immediates one after the other
abbrev pub AreShortImmediates : Option ℕ → List ℤ → List ℕ → Type 0
AreShortImmediates bits [] text = text ≡ []
AreShortImmediates bits (z ∷ zs) text =
    (front : List ℕ) × (back : List ℕ) × (text ≡ front ++ back)
    × IsShortImmediate bits z front × AreShortImmediates bits zs back

-- ---- operators

-- a byte, and immediates after it
abbrev pub StandBehind : ℕ → Option ℕ → List ℤ → List ℕ → Type 0
StandBehind code bits zs text =
    (back : List ℕ) × (text ≡ code ∷ back) × AreShortImmediates bits zs back

-- the numbers after the first byte: for some a number that gives the operator, and the immediates
abbrev pub values_of : Op → List ℤ
values_of op = if is_prefix op.code then pos op.sub ∷ op.args else op.args

-- an operator in its shortest form
abbrev pub IsSpelled : Op → List ℕ → Type 0
IsSpelled op text = StandBehind op.code (signed_bits op.code) (values_of op) text

-- operators one after the other
abbrev pub AreSpelled : List Op → List ℕ → Type 0
AreSpelled [] text = text ≡ []
AreSpelled (op ∷ ops) text =
    (front : List ℕ) × (back : List ℕ) × (text ≡ front ++ back)
    × IsSpelled op front × AreSpelled ops back

-- a body: no local declarations, and the operators
abbrev pub IsSpelledBody : List Op → List ℕ → Type 0
IsSpelledBody ops body = (text : List ℕ) × (body ≡ 0 ∷ text) × AreSpelled ops text

-- ---- the operators that are made

-- the operator of the format
abbrev pub as_op : Operator → Op
as_op Block = wat.block
as_op End = wat.end
as_op (Br label) = wat.br label
as_op (BrTable a b c) = wat.br_table a b c
as_op (Call f) = wat.call f
as_op Drop = wat.drop
as_op (LocalGet i) = wat.local_get i
as_op (GlobalGet i) = wat.global_get i
as_op (GlobalSet i) = wat.global_set i
as_op I32Store = wat.i32_store
as_op (I32Const z) = wat.i32_const z
as_op (I32Unsigned n) = wat.i32_const (pos n)
as_op (I64Const z) = wat.i64_const z
as_op I32Add = wat.i32_add
as_op (MemoryInit k) = wat.memory_init k
as_op (DataDrop k) = wat.data_drop k
as_op MemoryFill = wat.memory_fill
as_op MemoryAtomicNotify = wat.memory_atomic_notify
as_op MemoryAtomicWait32 = wat.memory_atomic_wait32
as_op I32AtomicStore = wat.i32_atomic_store
as_op I32AtomicRmwCmpxchg = wat.i32_atomic_rmw_cmpxchg

abbrev pub as_ops : List Operator → List Op
as_ops os = map as_op os
