-- Bytes in hexadecimal, and names.
use Rattle.std.proofs.Common.{◌≡◌, ℕ, ◌+◌, ◌-◌, ◌*◌, ◌/◌, ◌%◌, ◌<◌, ◌==◌, ◌&&◌, ◌||◌, length, arith, Bool, true, false, cond, List, [], ◌∷◌, ◌++◌, Option, Some, None, unwrap_or, inl, inr, refl, sym, ap, subst, ◌∙◌, eqb, ltb, leb}
use Rattle.std.specs.Prelude.{slice_index, ⊤}
use Rattle.std.specs.List.{AllByRecursion, flat_map}
use Rattle.std.proofs.lemmas.Bool.{eqb-true, eqb-false, ne_eqb, and_parts, or_parts, or_cases, ltb-true, ltb-false, leb-true, agree_below, agree_below_at}
use Rattle.hex.specs.Hex.{encode_with, encode_lower, lower_digits}
use Rattle.wl_text.specs.Pieces.{is_escaped, escaped}
use Rattle.wl_check.specs.Texts.{newline, hex, name}
use Rattle.wl_check.specs.Ranges.{AreBytes}
use Rattle.wl_check.specs.Reading.{◌>>=◌, strip, lower_digit, pair_at, hex_at, if_escaped, escaped_at, name_at}
use Rattle.wl_check.proofs.Codes.{IsCode, IsInside, Shortens, bind_some, some_is, same_code, behind_code, ended_code}
use Rattle.wl_check.proofs.UntilLaws.{until_code, item_shortens}

-- ---- one digit, by tests of all that there are

abbrev digit : ℕ → ℕ
digit d = slice_index lower_digits d

some_from : (o : Option ℕ) (d : ℕ) → d < 16 → eqb (unwrap_or o 99) d ≡ true → o ≡ Some d
some_from (Some v) d lt e = ap Some (eqb-true v d e)
some_from None d lt e = absurd (let s = eqb-true 99 d e in omega arith)

digit_again : (d : ℕ) → d < 16 → lower_digit (digit d) ≡ Some d
digit_again d lt = some_from (lower_digit (digit d)) d lt (agree_below_at (λ k. eqb (unwrap_or (lower_digit (digit k)) 99) k) (λ _. true) 16 d refl lt)

-- the digit is written so
abbrev writes : ℕ → Option ℕ → Bool
writes c None = true
writes c (Some d) = ltb d 16 && eqb (digit d) c

digit_limit : (c d : ℕ) → (a b : Bool) → (leb 48 c && leb c 57) ≡ a → (leb 97 c && leb c 102) ≡ b → cond a (Some (c - 48)) (cond b (Some (c - 87)) None) ≡ Some d → c < 103
digit_limit c d true b ais bis e = let p = and_parts (leb 48 c) (leb c 57) ais in let h = leb-true c 57 p.1 in omega arith
digit_limit c d false true ais bis e = let p = and_parts (leb 97 c) (leb c 102) bis in let h = leb-true c 102 p.1 in omega arith
digit_limit c d false false ais bis e = absurd cc

digit_found : (c d : ℕ) → lower_digit c ≡ Some d → (d < 16) × (digit d ≡ c)
digit_found c d e =
    let low = digit_limit c d (leb 48 c && leb c 57) (leb 97 c && leb c 102) refl refl e in
    let test : writes c (lower_digit c) ≡ true = agree_below_at (λ k. writes k (lower_digit k)) (λ _. true) 103 c refl low in
    let is : (ltb d 16 && eqb (digit d) c) ≡ true = ap (writes c) (sym e) ∙ test in
    let p = and_parts (ltb d 16) (eqb (digit d) c) is in
    (ltb-true d 16 p.0, eqb-true (digit d) c p.1)

-- a byte that no digit is
abbrev pub NoHexDigit : ℕ → Type 0
NoHexDigit end = agree_below (λ d. eqb end (digit d)) (λ _. false) 16 ≡ true

not_digit : (end : ℕ) → NoHexDigit end → (d : ℕ) → d < 16 → eqb end (digit d) ≡ false
not_digit end other d lt = agree_below_at (λ k. eqb end (digit k)) (λ _. false) 16 d other lt

digit_inside : (d : ℕ) → d < 16 → eqb (digit d) newline ≡ false
digit_inside d lt = agree_below_at (λ k. eqb (digit k) newline) (λ _. false) 16 d refl lt

-- ---- a byte

abbrev pub pair : ℕ → List ℕ
pair b = encode_lower (b ∷ [])

pair_found : (bytes : List ℕ) (p : ℕ × List ℕ) → pair_at bytes ≡ Some p → (p.0 < 256) × (bytes ≡ pair p.0 ++ p.1)
unfolding pair_at encode_with
pair_found [] p e = absurd cc
pair_found (h ∷ []) p e = absurd cc
pair_found (h ∷ l ∷ bytes) p e =
    let a = bind_some (lower_digit h) (λ (x : ℕ). lower_digit l >>= λ y. Some (x * 16 + y, bytes)) p e in
    let b = bind_some (lower_digit l) (λ (y : ℕ). Some (a.0 * 16 + y, bytes)) p a.2 in
    let x = digit_found h a.0 a.1 in
    let y = digit_found l b.0 b.1 in
    let x_small : a.0 < 16 = x.0 in
    let y_small : b.0 < 16 = y.0 in
    let high : (a.0 * 16 + b.0) / 16 ≡ a.0 = omega arith in
    let low : (a.0 * 16 + b.0) % 16 ≡ b.0 = omega arith in
    subst (λ (q : ℕ × List ℕ). (q.0 < 256) × (h ∷ l ∷ bytes ≡ pair q.0 ++ q.1)) (some_is _ _ b.2)
    (omega arith, rw (high, low, x.1, y.1) refl)

pair_again : (b : ℕ) → b < 256 → (rest : List ℕ) → pair_at (pair b ++ rest) ≡ Some (b, rest)
unfolding pair_at encode_with
pair_again b small rest =
    let whole : b / 16 * 16 + b % 16 ≡ b = omega arith in
    rw (digit_again (b / 16) (omega arith), digit_again (b % 16) (omega arith), whole) refl

pair_inside : (b : ℕ) → b < 256 → IsInside (pair b)
unfolding encode_with
pair_inside b small rest = rw (digit_inside (b / 16) (omega arith), digit_inside (b % 16) (omega arith)) refl

pair_code : IsCode false pair (λ b. b < 256) pair_at
pair_code = record { found = pair_found; again = pair_again; stretch = pair_inside }

pair_some : (b : ℕ) → 0 < length (pair b)
unfolding encode_with
pair_some b = omega arith

pub pair_shortens : Shortens pair_at
pair_shortens = item_shortens pair_code pair_some

pair_starts : (end : ℕ) → NoHexDigit end → (b : ℕ) → b < 256 → (rest : List ℕ) → strip (end ∷ []) (pair b ++ rest) ≡ None
unfolding strip encode_with
pair_starts end other b small rest = rw (not_digit end other (b / 16) (omega arith)) refl

pairs_are : (bytes : List ℕ) → flat_map pair bytes ≡ encode_lower bytes
unfolding encode_with
pairs_are [] = refl
pairs_are (b ∷ bytes) = ap (λ (t : List ℕ). pair b ++ t) (pairs_are bytes)

pub hex_code : (end : ℕ) → NoHexDigit end → IsCode (end == newline) (hex end) AreBytes (hex_at end)
hex_code end other =
    same_code (λ bytes. ap (λ (t : List ℕ). t ++ end ∷ []) (pairs_are bytes)) (λ bytes f. f) (λ bytes f. f)
    (until_code end pair_code pair_some (pair_starts end other))

-- ---- a byte of a name

abbrev written : Bool → ℕ → List ℕ
written behind b = cond behind (0x5c ∷ pair b) (b ∷ [])

-- what follows a backslash is below 0x80
escaped_small : (b : ℕ) → is_escaped b ≡ true → b < 256
escaped_small b is = elim (or_cases (ltb b 0x20 || eqb b 0x22 || eqb b 0x5c) (eqb b 0x7f) is) [
  | inl first ↦ elim (or_cases (ltb b 0x20 || eqb b 0x22) (eqb b 0x5c) first) [
    | inl second ↦ elim (or_cases (ltb b 0x20) (eqb b 0x22) second) [
      | inl low ↦ let h = ltb-true b 0x20 low in omega arith
      | inr quote ↦ let h = eqb-true b 0x22 quote in omega arith
    ]
    | inr slash ↦ let h = eqb-true b 0x5c slash in omega arith
  ]
  | inr delete ↦ let h = eqb-true b 0x7f delete in omega arith
]

record IsPlain (b : ℕ) : Type 0 where
  low : eqb b newline ≡ false
  quote : eqb 0x22 b ≡ false
  slash : eqb b 0x5c ≡ false

plain_is : (b : ℕ) → is_escaped b ≡ false → IsPlain b
plain_is b is =
    let first = or_parts _ _ is in
    let second = or_parts _ _ first.0 in
    let third = or_parts _ _ second.0 in
    let low = ltb-false b 0x20 third.0 in
    let quote = eqb-false b 0x22 third.1 in
    record { low = ne_eqb b newline (λ e. omega arith); quote = ne_eqb 0x22 b (λ e. quote (sym e)); slash = second.1 }

again_step : (b : ℕ) (behind : Bool) → is_escaped b ≡ behind → (rest : List ℕ) → escaped_at (written behind b ++ rest) ≡ Some (b, rest)
unfolding escaped_at
again_step b true is rest = rw (pair_again b (escaped_small b is) rest, is) refl
again_step b false is rest = let p = plain_is b is in rw (is, p.slash) refl

behind_step : (q p : ℕ × List ℕ) (behind : Bool) → is_escaped q.0 ≡ behind → cond behind (Some q) None ≡ Some p → (q ≡ p) × (is_escaped q.0 ≡ true)
behind_step q p true is e = (some_is _ _ e, is)
behind_step q p false is e = absurd cc

found_step : (b : ℕ) (bytes : List ℕ) (p : ℕ × List ℕ) (slash : Bool) → eqb b 0x5c ≡ slash → (behind : Bool) → is_escaped b ≡ behind → cond slash (pair_at bytes >>= if_escaped) (cond behind None (Some (b, bytes))) ≡ Some p → b ∷ bytes ≡ escaped p.0 ++ p.1
found_step b bytes p true sis behind bis e =
    let s = eqb-true b 0x5c sis in
    let a = bind_some (pair_at bytes) if_escaped p e in
    let f = pair_found bytes a.0 a.1 in
    let t = behind_step a.0 p (is_escaped a.0.0) refl a.2 in
    subst (λ (q : ℕ × List ℕ). b ∷ bytes ≡ escaped q.0 ++ q.1) t.0 (rw (t.1, s) (ap (λ (r : List ℕ). 0x5c ∷ r) f.1))
found_step b bytes p false sis true bis e = absurd cc
found_step b bytes p false sis false bis e =
    subst (λ (q : ℕ × List ℕ). b ∷ bytes ≡ escaped q.0 ++ q.1) (some_is _ _ e) (rw bis refl)

escaped_found : (bytes : List ℕ) (p : ℕ × List ℕ) → escaped_at bytes ≡ Some p → ⊤ × (bytes ≡ escaped p.0 ++ p.1)
unfolding escaped_at
escaped_found [] p e = absurd cc
escaped_found (b ∷ bytes) p e = (tt, found_step b bytes p (eqb b 0x5c) refl (is_escaped b) refl e)

inside_step : (b : ℕ) (behind : Bool) → is_escaped b ≡ behind → IsInside (written behind b)
inside_step b true is rest = ap (λ (t : List ℕ). 0x5c ∷ t) (pair_inside b (escaped_small b is) rest)
inside_step b false is rest = let p = plain_is b is in rw p.low refl

starts_step : (b : ℕ) (behind : Bool) → is_escaped b ≡ behind → (rest : List ℕ) → strip (0x22 ∷ []) (written behind b ++ rest) ≡ None
unfolding strip
starts_step b true is rest = refl
starts_step b false is rest = let p = plain_is b is in rw p.quote refl

some_step : (b : ℕ) (behind : Bool) → 0 < length (written behind b)
some_step b true = let s = pair_some b in omega arith
some_step b false = omega arith

escaped_code : IsCode false escaped (λ _. ⊤) escaped_at
escaped_code = record {
  found = escaped_found;
  again = λ b fits rest. again_step b (is_escaped b) refl rest;
  stretch = λ b fits rest. inside_step b (is_escaped b) refl rest;
}

pub escaped_shortens : Shortens escaped_at
escaped_shortens = item_shortens escaped_code (λ b. some_step b (is_escaped b))

-- ---- names

all_fit : (name : List ℕ) → AllByRecursion (λ (b : ℕ). ⊤) name
all_fit [] = tt
all_fit (b ∷ name) = (tt, all_fit name)

pub name_code : (end : ℕ) → IsCode (end == newline) (name end) (λ _. ⊤) (name_at end)
name_code end =
    same_code (λ n. refl) (λ n f. tt) (λ n f. all_fit n)
    (ended_code end (behind_code (0x22 ∷ []) (λ rest. refl)
    (until_code 0x22 escaped_code (λ b. some_step b (is_escaped b)) (λ b fits rest. starts_step b (is_escaped b) refl rest))))
