-- Marks in packed bits: how long they are, how one is read, what a set bit changes.
use Rattle.std.proofs.Common.{◌≡◌, ◌≢◌, ℕ, ◌*◌, ◌/◌, ◌%◌, ◌<◌, ◌≤◌, Bool, true, false, List, length, get_or, set, replicate, ◌==◌, refl, ap, sym, ◌∙◌, inl, inr, arith}
use Rattle.std.specs.Int.{bit_at}
use Rattle.std.proofs.lemmas.List.{length-set, length-replicate, get_or-replicate, get_or_past, get_or-set_same, get_or-set_other, same_lists}
use Rattle.std.proofs.lemmas.List.FromFn.{length-map-range_with_len, get_or-map-range_with_len}
use Rattle.std.proofs.lemmas.Nat.{div-add-mod', mod_below}
use Rattle.std.proofs.lemmas.Nat.Bits.{bit_at-zero, bit_at_ones}
use Rattle.std.proofs.lemmas.Bool.{cases_eq, cases_lt}
use Rattle.wl_reach.specs.Marks.{bit_of, unpacked}

pub length-unpacked : (n : ℕ) (words : List ℕ) → length (unpacked n words) ≡ n
unfolding unpacked
length-unpacked n words = length-map-range_with_len (bit_of words) 0 n

pub get_or-unpacked : (n : ℕ) (words : List ℕ) (i : ℕ) (d : Bool) → i < n → get_or (unpacked n words) i d ≡ bit_of words i
unfolding unpacked
get_or-unpacked n words i d lt = get_or-map-range_with_len (bit_of words) 0 n i i d lt (omega arith)

-- the word of a mark
pub word_within : (n m i : ℕ) → n ≤ 64 * m → i < n → i / 64 < m
word_within n m i fits lt = omega arith

-- no bit is set
pub get_or-zeros : (m k : ℕ) → get_or {A = ℕ} (replicate m 0) k 0 ≡ 0
get_or-zeros m k = elim (cases_lt k m) [ inl lt ↦ get_or-replicate m k 0 0 lt | inr le ↦ get_or_past (replicate m 0) k 0 (rw length-replicate le) ]

pub bit_of_zeros : (m i : ℕ) → bit_of (replicate m 0) i ≡ false
bit_of_zeros m i = rw (get_or-zeros m (i / 64), bit_at-zero (i % 64)) refl

pub unpacked_zeros : (n m : ℕ) → unpacked n (replicate m 0) ≡ replicate n false
unpacked_zeros n m =
    same_lists _ _ (length-unpacked n (replicate m 0) ∙ sym (length-replicate n false))
    (λ k d lt.
    let within : k < n = rw (length-unpacked n (replicate m 0)) at lt in
    get_or-unpacked n (replicate m 0) k d within ∙ (bit_of_zeros m k ∙ sym (get_or-replicate n k false d within)))

-- all bits are set
pub bit_of_ones : (m i : ℕ) → i / 64 < m → bit_of (replicate m 18446744073709551615) i ≡ true
bit_of_ones m i lt = rw (get_or-replicate {A = ℕ} m (i / 64) 18446744073709551615 0 lt, bit_at_ones 64 (i % 64) (mod_below i 64 (omega arith))) refl

pub unpacked_ones : (n m : ℕ) → n ≤ 64 * m → unpacked n (replicate m 18446744073709551615) ≡ replicate n true
unpacked_ones n m fits =
    same_lists _ _ (length-unpacked n (replicate m 18446744073709551615) ∙ sym (length-replicate n true))
    (λ k d lt.
    let within : k < n = rw (length-unpacked n (replicate m 18446744073709551615)) at lt in
    get_or-unpacked n (replicate m 18446744073709551615) k d within ∙ (bit_of_ones m k (word_within n m k fits within) ∙ sym (get_or-replicate n k true d within)))

-- a word in which one more bit is set
pub bit_of-set_same : (words : List ℕ) (p word : ℕ) → p / 64 < length words → bit_at word (p % 64) ≡ 1 → bit_of (set words (p / 64) word) p ≡ true
bit_of-set_same words p word within one = rw (get_or-set_same words (p / 64) word 0 within, one) refl

pub bit_of-set_other : (words : List ℕ) (p word i : ℕ) → p / 64 < length words → ((j : ℕ) → j ≢ p % 64 → bit_at word j ≡ bit_at (get_or words (p / 64) 0) j) → i ≢ p → bit_of (set words (p / 64) word) i ≡ bit_of words i
bit_of-set_other words p word i within others other =
    elim (cases_eq (i / 64) (p / 64)) [
      | inl e ↦
          let apart : i % 64 ≢ p % 64 = λ f. other (omega (arith, e, f, div-add-mod' i 64, div-add-mod' p 64)) in
          ap (λ b. b == 1) (rw (e, get_or-set_same words (p / 64) word 0 within) (others (i % 64) apart))
      | inr n ↦ rw (get_or-set_other words (p / 64) (i / 64) word 0 n) refl
    ]

pub unpacked-set : (n : ℕ) (words : List ℕ) (p word : ℕ) → p < n → n ≤ 64 * length words → bit_at word (p % 64) ≡ 1 → ((j : ℕ) → j ≢ p % 64 → bit_at word j ≡ bit_at (get_or words (p / 64) 0) j) → unpacked n (set words (p / 64) word) ≡ set (unpacked n words) p true
unpacked-set n words p word lt fits one others =
    let within : p / 64 < length words = word_within n (length words) p fits lt in
    let inside : p < length (unpacked n words) = rw (length-unpacked n words) lt in
    same_lists _ _ (length-unpacked n (set words (p / 64) word) ∙ sym (length-set (unpacked n words) p true ∙ length-unpacked n words))
    (λ k d below.
    let here : k < n = rw (length-unpacked n (set words (p / 64) word)) at below in
    get_or-unpacked n (set words (p / 64) word) k d here
    ∙ elim (cases_eq k p) [
      | inl e ↦ rw (e, bit_of-set_same words p word within one, get_or-set_same (unpacked n words) p true d inside) refl
      | inr other ↦ bit_of-set_other words p word k within others other ∙ sym (get_or-set_other (unpacked n words) p k true d other ∙ get_or-unpacked n words k d here)
    ])
