-- How many marks are set, by the ones of words.
use Rattle.std.proofs.Common.{◌≡◌, ℕ, zero, suc, ◌+◌, ◌*◌, ◌/◌, ◌%◌, ◌^◌, ◌<◌, ◌≤◌, ◌==◌, Bool, true, false, cond, min, ◌-◌, List, length, get_or, take, refl, ap, ◌∙◌, arith, count_ones}
use Rattle.std.specs.Int.{bit_at, from_bool}
use Rattle.std.proofs.lemmas.List.Sums.{sum_by_more}
use Rattle.std.proofs.lemmas.Nat.{mod-pow-add, ones_cat, mod_below, pow_pos, div-mul-add, mod-mul-add}
use Rattle.std.proofs.lemmas.Nat.Bits.{bit_at-lt}
use Rattle.wl_reach.specs.Marks.{unpacked, count_set}
use Rattle.wl_reach.proofs.MarkLaws.{length-unpacked, get_or-unpacked}

pub count_set_more : (marks : List Bool) (k : ℕ) → k < length marks → count_set (take (k + 1) marks) ≡ count_set (take k marks) + cond (get_or marks k false) 1 0
count_set_more marks k lt = sum_by_more (λ (b : Bool). cond b 1 0) marks k false lt

-- one bit more
pub ones_bit : (b : ℕ) → b < 2 → count_ones b ≡ cond (b == 1) 1 0
unfolding lib.Count.ones
ones_bit zero lt = refl
ones_bit (suc zero) lt = refl
ones_bit (suc (suc b)) lt = absurd (omega arith)

pub ones_more : (n k : ℕ) → count_ones (n % 2 ^ (k + 1)) ≡ count_ones (n % 2 ^ k) + cond (bit_at n k == 1) 1 0
ones_more n k =
    let split : n % 2 ^ (1 + k) ≡ (n / 2 ^ k % 2 ^ 1) * 2 ^ k + n % 2 ^ k = mod-pow-add n 1 k in
    let turn : k + 1 ≡ 1 + k = omega arith in
    ap (λ m. count_ones (n % 2 ^ m)) turn
    ∙ (ap count_ones split
    ∙ (ones_cat k (bit_at n k) (n % 2 ^ k) (mod_below n (2 ^ k) (pow_pos k))
    ∙ omega (arith, ones_bit (bit_at n k) (bit_at-lt n k))))

-- the marks of a word are counted by its ones
pub count_in : (n : ℕ) (words : List ℕ) (w k : ℕ) → w * 64 + k ≤ n → k ≤ 64 → count_set (take (w * 64) (unpacked n words)) + count_ones (get_or words w 0 % 2 ^ k) ≡ count_set (take (w * 64 + k) (unpacked n words))
count_in n words w zero fits small =
    let none : get_or words w 0 % 1 ≡ 0 = omega arith in
    let zero_ones : count_ones 0 ≡ 0 = ones_bit 0 (omega arith) in
    let same : w * 64 + 0 ≡ w * 64 = omega arith in
    rw same (omega (arith, ap count_ones none, zero_ones))
count_in n words w (suc k) fits small =
    let below : w * 64 + k < n = omega arith in
    let row : (w * 64 + k) / 64 ≡ w = div-mul-add w 64 k (omega arith) in
    let column : (w * 64 + k) % 64 ≡ k = mod-mul-add w 64 k (omega arith) in
    let bit : get_or (unpacked n words) (w * 64 + k) false ≡ (bit_at (get_or words w 0) k == 1) =
    get_or-unpacked n words (w * 64 + k) false below ∙ (ap (λ r. bit_at (get_or words r 0) ((w * 64 + k) % 64) == 1) row ∙ ap (λ m. bit_at (get_or words w 0) m == 1) column) in
    let next = count_set_more (unpacked n words) (w * 64 + k) (rw length-unpacked below) in
    let turn : w * 64 + suc k ≡ w * 64 + k + 1 = omega arith in
    let one : suc k ≡ k + 1 = omega arith in
    rw (turn, one) (omega (arith, count_in n words w k (omega arith) (omega arith), ones_more (get_or words w 0) k, next, ap (λ b. cond {A = ℕ} b 1 0) bit))

-- one word more
pub words_more : (marks : List Bool) (word total count mark last : ℕ) → word * 64 < length marks → last ≡ min (word * 64 + 63) (length marks - 1) → total ≡ count_set (take (min (word * 64) (length marks)) marks) → count_set (take (last / 64 * 64) marks) + count ≡ count_set (take last marks) → mark ≡ from_bool (get_or marks last false) → total + (count + mark) ≡ count_set (take (min ((word + 1) * 64) (length marks)) marks)
words_more marks word total count mark last lt at so_far more bit =
    let here : last / 64 * 64 ≡ word * 64 = omega arith in
    let before : min (word * 64) (length marks) ≡ word * 64 = omega arith in
    let behind : min ((word + 1) * 64) (length marks) ≡ last + 1 = omega arith in
    let within : last < length marks = omega arith in
    let one : from_bool (get_or marks last false) ≡ cond (get_or marks last false) 1 0 = elim (get_or marks last false) as (λ b. from_bool b ≡ cond b 1 0) [ true ↦ refl | false ↦ refl ] in
    rw behind (omega (arith, count_set_more marks last within, ap (λ n. count_set (take n marks)) before, ap (λ n. count_set (take n marks)) here))
