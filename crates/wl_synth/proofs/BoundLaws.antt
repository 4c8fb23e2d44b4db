-- Constants that are in range are numbers of 32 bits.
use Rattle.std.proofs.Common.{◌≡◌, ℕ, ◌<◌, ◌^◌, Bool, true, false, cond, eqb, List, [], ◌∷◌, ◌++◌, None, refl, subst, arith, inl, inr}
use Rattle.std.specs.List.{flat_map, AllByRecursion}
use Rattle.std.proofs.lemmas.Bool.{cases_lt, lt-ltb, eqb-true}
use Rattle.wl_synth.specs.declared.parts.PassiveSegmentCopy.{PassiveSegmentCopy}
use Rattle.wl_synth.specs.Wat as wat
use Rattle.wl_synth.specs.Bodies.{const, copy_ops, drop_ops, claim_ops, release_ops, wait_ops, init_memory_ops, ThreadBlock, clear_ops, template_ops, pointer_ops, got_ops, init_tls_ops}
use Rattle.wl_synth.specs.Encoding.{great_constant, AreInRange}
use Rattle.wl_synth.proofs.BodyLaws.{range_left, range_right}
use Rattle.wl_synth.proofs.MemoryLaws.{HasWords}

pub small_constant : (n : ℕ) → great_constant (const n) ≡ None → n < 2 ^ 32
small_constant n e =
    elim (cases_lt 2147483647 n) [
      | inl lt ↦ absurd (let s = rw (lt-ltb 2147483647 n lt) at e in cc)
      | inr le ↦ omega arith
    ]

-- ---- shared memory

words_of_copies : (cs : List PassiveSegmentCopy) → AreInRange (flat_map copy_ops cs) → AllByRecursion HasWords cs
words_of_copies [] a = tt
words_of_copies (c ∷ cs) a = ((small_constant c.offset a.0, small_constant c.len a.1.1.0), words_of_copies cs a.1.1.1.1)

-- the parts of the body, the first two
pub memory_words : (flag : ℕ) (cs : List PassiveSegmentCopy) → AreInRange (init_memory_ops flag cs) → (flag < 2 ^ 32) × AllByRecursion HasWords cs
memory_words flag cs a =
    let one = claim_ops flag in
    let two = one ++ flat_map copy_ops cs in
    let three = two ++ release_ops flag in
    let four = three ++ wait_ops flag in
    let five = four ++ flat_map drop_ops cs in
    let front : AreInRange two = range_left two (release_ops flag) (range_left three (wait_ops flag) (range_left four (flat_map drop_ops cs) (range_left five (wat.end ∷ []) a))) in
    let claim = range_left one (flat_map copy_ops cs) front in
    (small_constant flag claim.1.1.1.0, words_of_copies cs (range_right one (flat_map copy_ops cs) front))

-- ---- thread-local storage

size_by : (size : ℕ) (b : Bool) → eqb size 0 ≡ b → AreInRange (clear_ops size) → size < 2 ^ 32
size_by size true e a = let none : size ≡ 0 = eqb-true size 0 e in omega arith
size_by size false e a =
    let there = subst (λ (t : Bool). AreInRange (cond t [] (wat.local_get 0 ∷ const 0 ∷ const size ∷ wat.memory_fill ∷ []))) e a in
    small_constant size there.1.1.0

pub size_is_word : (b : ThreadBlock) → AreInRange (init_tls_ops b) → b.size < 2 ^ 32
size_is_word b a =
    let one = wat.local_get 0 ∷ wat.global_set b.base_global ∷ [] in
    let two = one ++ clear_ops b.size in
    let three = two ++ flat_map template_ops b.templates in
    let four = three ++ flat_map (pointer_ops b.base_global) b.pointers in
    let five = four ++ flat_map (got_ops b.base_global) b.got in
    let front : AreInRange two =
    range_left two (flat_map template_ops b.templates)
    (range_left three (flat_map (pointer_ops b.base_global) b.pointers) (range_left four (flat_map (got_ops b.base_global) b.got) (range_left five (wat.end ∷ []) a))) in
    size_by b.size (eqb b.size 0) refl (range_right one (clear_ops b.size) front)
