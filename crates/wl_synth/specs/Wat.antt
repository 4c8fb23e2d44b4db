-- Operators by their names in the text format (core specification, "Text Format"; those with the
-- prefix 0xfe by the threads proposal).
use Rattle.std.specs.Prelude.{ℕ, ℤ, pos, negsuc, List, [], ◌∷◌}
use Rattle.wl_ops.specs.declared.op.Op.{Op}

-- ---- parts of operators

-- a first byte and immediates
abbrev pub by_byte : ℕ → List ℤ → Op
by_byte code args = record { code = code; sub = 0; args = args }

-- the byte 0xfc, a number and immediates
abbrev pub by_fc : ℕ → List ℤ → Op
by_fc sub args = record { code = 0xfc; sub = sub; args = args }

-- the byte 0xfe, a number, the alignment of four bytes and no offset
abbrev pub by_fe : ℕ → Op
by_fe sub = record { code = 0xfe; sub = sub; args = pos 2 ∷ pos 0 ∷ [] }

-- ---- control

abbrev pub unreachable : Op
unreachable = by_byte 0x00 []

-- a block that takes and leaves nothing
abbrev pub block : Op
block = by_byte 0x02 (negsuc 63 ∷ [])

abbrev pub end : Op
end = by_byte 0x0b []

abbrev pub br : ℕ → Op
br label = by_byte 0x0c (pos label ∷ [])

-- to the first label on 0, to the second on 1, else to the third
abbrev pub br_table : ℕ → ℕ → ℕ → Op
br_table a b c = by_byte 0x0e (pos 2 ∷ pos a ∷ pos b ∷ pos c ∷ [])

abbrev pub call : ℕ → Op
call function = by_byte 0x10 (pos function ∷ [])

abbrev pub drop : Op
drop = by_byte 0x1a []

-- ---- variables

abbrev pub local_get : ℕ → Op
local_get i = by_byte 0x20 (pos i ∷ [])

abbrev pub global_get : ℕ → Op
global_get i = by_byte 0x23 (pos i ∷ [])

abbrev pub global_set : ℕ → Op
global_set i = by_byte 0x24 (pos i ∷ [])

-- ---- numbers

abbrev pub i32_const : ℤ → Op
i32_const z = by_byte 0x41 (z ∷ [])

abbrev pub i64_const : ℤ → Op
i64_const z = by_byte 0x42 (z ∷ [])

abbrev pub i32_add : Op
i32_add = by_byte 0x6a []

-- ---- memory

-- without an offset, aligned to four bytes
abbrev pub i32_store : Op
i32_store = by_byte 0x36 (pos 2 ∷ pos 0 ∷ [])

-- into memory 0
abbrev pub memory_init : ℕ → Op
memory_init segment = by_fc 8 (pos segment ∷ pos 0 ∷ [])

abbrev pub data_drop : ℕ → Op
data_drop segment = by_fc 9 (pos segment ∷ [])

-- of memory 0
abbrev pub memory_fill : Op
memory_fill = by_fc 11 (pos 0 ∷ [])

-- ---- threads

abbrev pub memory_atomic_notify : Op
memory_atomic_notify = by_fe 0x00

abbrev pub memory_atomic_wait32 : Op
memory_atomic_wait32 = by_fe 0x01

abbrev pub i32_atomic_store : Op
i32_atomic_store = by_fe 0x17

abbrev pub i32_atomic_rmw_cmpxchg : Op
i32_atomic_rmw_cmpxchg = by_fe 0x48
