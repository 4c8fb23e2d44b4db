-- Least multiples.
use Rattle.std.proofs.Common.{◌≡◌, ℕ, ◌+◌, ◌-◌, ◌*◌, ◌/◌, ◌%◌, ◌<◌, ◌≤◌, inl, inr, ap, ◌∙◌, arith}
use Rattle.std.specs.Int.{next_multiple_of}
use Rattle.std.proofs.lemmas.Bool.{cases_eq, cases_lt}
use Rattle.std.proofs.lemmas.Nat.{div-add-mod', div_below, mul-le}
use Rattle.std.proofs.Math.Nat.{mod_self, mod-lt, mod-eq_of_lt, mul-mod_left, sub-zero}
use Rattle.wl_data.specs.Spans.{IsLeastAligned}

-- an end that is a multiple stays
stays : (a e : ℕ) → e % a ≡ 0 → next_multiple_of e a ≡ e
stays a e z =
    let none : (a - e % a) % a ≡ 0 = ap (λ (k : ℕ). (a - k) % a) z ∙ ap (λ (k : ℕ). k % a) (sub-zero a) ∙ mod_self a in
    omega (arith, none)

-- another one goes to the next quotient
goes_up : (a e : ℕ) → 0 < a → (e % a ≡ 0 → ⊥) → next_multiple_of e a ≡ (e / a + 1) * a
goes_up a e p n =
    let l : e % a < a = mod-lt e p in
    let s : (a - e % a) % a ≡ a - e % a = mod-eq_of_lt (omega arith) in
    omega (arith, div-add-mod' e a)

-- a multiple that isn't below the end isn't below the next quotient
above : (a e other : ℕ) → 0 < a → (e % a ≡ 0 → ⊥) → other % a ≡ 0 → e ≤ other → (e / a + 1) * a ≤ other
above a e other p n z le =
    elim (cases_lt other ((e / a + 1) * a)) [
      | inl lt ↦
          let q : other / a < e / a + 1 = div_below other a (e / a + 1) p lt in
          let m : other / a * a ≤ e / a * a = mul-le (other / a) a (e / a) a (omega arith) (omega arith) in
          absurd (omega (arith, div-add-mod' e a, div-add-mod' other a))
      | inr ge ↦ ge
    ]

pub least_found : (a e : ℕ) → 0 < a → IsLeastAligned a e (next_multiple_of e a)
least_found a e p =
    elim (cases_eq (e % a) 0) [
      | inl z ↦
          let same = stays a e z in
          record { multiple = ap (λ (k : ℕ). k % a) same ∙ z; past = omega arith; least = λ other m le. omega arith }
      | inr n ↦
          let up = goes_up a e p n in
          record {
            multiple = ap (λ (k : ℕ). k % a) up ∙ mul-mod_left (e / a + 1) a;
            past = omega arith;
            least = λ other m le. omega (arith, up, above a e other p n m le);
          }
    ]

pub least_one : (a e p q : ℕ) → IsLeastAligned a e p → IsLeastAligned a e q → p ≡ q
least_one a e p q l m = omega (arith, l.least q m.multiple m.past, m.least p l.multiple l.past)

pub least_is : (a e p : ℕ) → 0 < a → IsLeastAligned a e p → p ≡ next_multiple_of e a
least_is a e p pos l = least_one a e p (next_multiple_of e a) l (least_found a e pos)
