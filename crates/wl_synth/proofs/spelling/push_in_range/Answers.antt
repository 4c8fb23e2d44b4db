use Rattle.std.proofs.Common.{◌≡◌, ℕ, ℤ, pos, [], ◌∷◌, None, Result, Ok, Err, OnOk, rules, arith, ◌∙◌, inl, inr, w32, w64, SFits}
use Rattle.std.proofs.lemmas.Int.{ints, to_z-of_z}
use Rattle.std.proofs.lemmas.Bool.{cases_lt, lt-ltb}
use Rattle.wl_bytes.specs.Leb.{IsWithin}
use Rattle.wl_synth.specs.Encoding.{great_in}
use Rattle.wl_synth.proofs.spelling.push_in_range.Goals as goal

on_ok : {X E P Q : Type 0} (r : Result X E) → (P → Q) → OnOk r P → OnOk r Q
on_ok (Ok x) f h = f h
on_ok (Err e) f h = h

within_const : (n : ℕ) → great_in (pos n ∷ []) ≡ None → IsWithin 31 (pos n)
within_const n e =
    elim (cases_lt 2147483647 n) [
      | inl lt ↦ absurd (let s = rw (lt-ltb 2147483647 n lt) at e in cc)
      | inr le ↦ (omega (arith, ints), omega (arith, ints, le))
    ]

pub returns-in-MemoryInit : goal.returns-in-MemoryInit
returns-in-MemoryInit c = rw c.in-MemoryInit.is c.push_immediates-in-MemoryInit.ensures

pub returns-in-DataDrop : goal.returns-in-DataDrop
returns-in-DataDrop c = rw c.in-DataDrop.is c.push_immediates-in-DataDrop.ensures

pub returns-in-MemoryFill : goal.returns-in-MemoryFill
returns-in-MemoryFill c = rw c.in-MemoryFill.is c.push_immediates-in-MemoryFill.ensures

pub returns-in-MemoryAtomicNotify : goal.returns-in-MemoryAtomicNotify
returns-in-MemoryAtomicNotify c = rw c.in-MemoryAtomicNotify.is c.push_immediates-in-MemoryAtomicNotify.ensures

pub returns-in-MemoryAtomicWait32 : goal.returns-in-MemoryAtomicWait32
returns-in-MemoryAtomicWait32 c = rw c.in-MemoryAtomicWait32.is c.push_immediates-in-MemoryAtomicWait32.ensures

pub returns-in-I32AtomicStore : goal.returns-in-I32AtomicStore
returns-in-I32AtomicStore c = rw c.in-I32AtomicStore.is c.push_immediates-in-I32AtomicStore.ensures

pub returns-in-I32AtomicRmwCmpxchg : goal.returns-in-I32AtomicRmwCmpxchg
returns-in-I32AtomicRmwCmpxchg c = rw c.in-I32AtomicRmwCmpxchg.is c.push_immediates-in-I32AtomicRmwCmpxchg.ensures

pub returns-in-Block : goal.returns-in-Block
returns-in-Block c = rw c.in-Block.is (on_ok c.push_signed_immediate.result (λ f. f 32 (search rules, search rules)) c.push_signed_immediate.ensures)

pub returns-in-I32Unsigned : goal.returns-in-I32Unsigned
returns-in-I32Unsigned c =
    let fits : SFits w64 c.from-in-I32Unsigned.result = search rules in
    let same = to_z-of_z w64 c.from-in-I32Unsigned.result fits ∙ c.from-in-I32Unsigned.ensures in
    let small = rw c.in-I32Unsigned.is at c.requires in
    let done = rw same at c.push_signed_immediate-in-I32Unsigned.ensures in
    rw c.in-I32Unsigned.is (on_ok c.push_signed_immediate-in-I32Unsigned.result (λ f. f 31 (within_const c.in-I32Unsigned.number small)) done)

within32 : (z : ℤ) → SFits w32 z → IsWithin 31 z
within32 z f = (omega (arith, ints, f), omega (arith, ints, f))

within64 : (z : ℤ) → SFits w64 z → IsWithin 63 z
within64 z f = (omega (arith, ints, f), omega (arith, ints, f))

pub returns-in-I32Const : goal.returns-in-I32Const
returns-in-I32Const c =
    let small : SFits w32 c.in-I32Const.number = search rules in
    let fits : SFits w64 c.from.result = search rules in
    let same = to_z-of_z w64 c.from.result fits ∙ c.from.ensures ∙ to_z-of_z w32 c.in-I32Const.number small in
    let done = rw same at c.push_signed_immediate-in-I32Const.ensures in
    rw c.in-I32Const.is (on_ok c.push_signed_immediate-in-I32Const.result (λ f. f 31 (within32 c.in-I32Const.number small)) done)

pub returns-in-I64Const : goal.returns-in-I64Const
returns-in-I64Const c =
    let fits : SFits w64 c.in-I64Const.number = search rules in
    let same = to_z-of_z w64 c.in-I64Const.number fits in
    let done = rw same at c.push_signed_immediate-in-I64Const.ensures in
    rw c.in-I64Const.is (on_ok c.push_signed_immediate-in-I64Const.result (λ f. f 63 (within64 c.in-I64Const.number fits)) done)
