-- What stands in a field reads as its number.
use Rattle.std.proofs.Common.{◌≡◌, ℕ, ◌+◌, ◌*◌, ◌/◌, ◌^◌, ◌<◌, ◌≤◌, [], ◌∷◌, refl, ap, arith, inl, inr}
use Rattle.std.specs.Prelude.{pos, ◌-ℤ◌}
use Rattle.std.proofs.lemmas.Bool.{cases_lt, lt-ltb, le-ltb}
use Rattle.std.proofs.lemmas.Int.{ints}
use Rattle.wl_bytes.specs.Leb.{IsU32, IsSigned, IsLeb, u32_form, s32_form, low_bits}
use Rattle.wl_numeric.specs.Integers.{signed}
use Rattle.wl_load.specs.Fields.{seven_bits, padded, highest_bits, signed_bits}

-- what the low seven bits of the first four bytes and the last one make
sum_of : (n last : ℕ) → n < 2 ^ 32 → last < 128 → low_bits (padded last n) + 2 ^ 28 * (n / 2 ^ 28) ≡ n + 2 ^ 28 * last
sum_of n last lt low = omega (arith, lt, low)

unsigned_leb : (n : ℕ) → n < 2 ^ 32 → IsLeb u32_form (padded (highest_bits n) n)
unsigned_leb n lt = record {
  front = seven_bits 0 n ∷ seven_bits 7 n ∷ seven_bits 14 n ∷ seven_bits 21 n ∷ [];
  end = highest_bits n;
  parts = refl;
  high = (omega arith, (omega arith, (omega arith, (omega arith, tt))));
  low = omega (arith, lt);
  short = omega arith;
  fits = λ _. lt-ltb (highest_bits n) 16 (omega (arith, lt));
}

-- five bytes of LEB128
pub unsigned_read : (n : ℕ) → n < 2 ^ 32 → IsU32 0 n (padded (highest_bits n) n)
unsigned_read n lt =
    let small : highest_bits n < 128 = omega (arith, lt) in
    record { leb = unsigned_leb n lt; value = omega (arith, sum_of n (highest_bits n) lt small) }

signed_small : (n : ℕ) → n < 2 ^ 31 → IsSigned s32_form 0 (pos n) (padded (highest_bits n) n)
signed_small n lt =
    let small : highest_bits n < 8 = omega (arith, lt) in
    let low : n ≡ low_bits (padded (highest_bits n) n) = omega (arith, lt) in
    record {
      leb = record {
        front = seven_bits 0 n ∷ seven_bits 7 n ∷ seven_bits 14 n ∷ seven_bits 21 n ∷ [];
        end = highest_bits n;
        parts = refl;
        high = (omega arith, (omega arith, (omega arith, (omega arith, tt))));
        low = omega (arith, small);
        short = omega arith;
        fits = λ _. rw (lt-ltb (highest_bits n) 8 small) refl;
      };
      value = rw (lt-ltb (highest_bits n) 64 (omega (arith, small))) (ap (λ (m : ℕ). pos m) low);
    }

signed_large : (n : ℕ) → 2 ^ 31 ≤ n → n < 2 ^ 32 → IsSigned s32_form 0 (pos n -ℤ pos (2 ^ 32)) (padded (highest_bits n + 112) n)
signed_large n le lt =
    let great : 120 ≤ highest_bits n + 112 = omega (arith, le) in
    let small : highest_bits n + 112 < 128 = omega (arith, lt) in
    let low : n + 112 * 2 ^ 28 ≡ low_bits (padded (highest_bits n + 112) n) = omega (arith, lt, le) in
    record {
      leb = record {
        front = seven_bits 0 n ∷ seven_bits 7 n ∷ seven_bits 14 n ∷ seven_bits 21 n ∷ [];
        end = highest_bits n + 112;
        parts = refl;
        high = (omega arith, (omega arith, (omega arith, (omega arith, tt))));
        low = small;
        short = omega arith;
        fits = λ _. grind (arith, great, small);
      };
      value = rw (le-ltb (highest_bits n + 112) 64 (omega (arith, great)), ← low) (grind (arith, ints));
    }

-- five bytes of signed LEB128, of the number's signed interpretation
pub signed_read : (n : ℕ) → n < 2 ^ 32 → IsSigned s32_form 0 (signed 32 n) (padded (signed_bits n) n)
signed_read n lt =
    elim (cases_lt n (2 ^ 31)) [
      | inl small ↦ rw (lt-ltb n (2 ^ 31) small) (signed_small n small)
      | inr large ↦ rw (le-ltb n (2 ^ 31) large) (signed_large n large lt)
    ]
