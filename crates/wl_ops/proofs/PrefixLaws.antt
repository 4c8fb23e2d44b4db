-- A body without a byte 0xfc has no numbers.
use Rattle.std.proofs.Common.{◌≡◌, ℕ, zero, suc, ◌+◌, ◌<◌, ℤ, Bool, true, false, eqb, List, [], ◌∷◌, ◌++◌, length, get_or, Option, Some, None, Result, Ok, Err, refl, sym, ap, subst, ◌∙◌, arith, inl, inr}
use Rattle.std.specs.Prelude.{◌||◌, is_some}
use Rattle.memchr.specs.Find.{IsFirstByte, Nowhere, Passes, is_byte}
use Rattle.wl_bytes.specs.Grammar.{Items}
use Rattle.wl_bytes.proofs.Steps.{false_from_not}
use Rattle.wl_bytes.specs.declared.read_error.ReadError.{ReadError}
use Rattle.wl_ops.specs.declared.op.Op.{Op}
use Rattle.wl_ops.specs.declared.op.DataIndexImm.{DataIndexImm}
use Rattle.wl_ops.specs.declared.op.Marked.{Marked}
use Rattle.wl_ops.specs.Decoding.{decoded}
use Rattle.wl_ops.specs.Numbers.{is_segment, IsMarkedBehind, IsMarkedOp, numbers, HasNumbers, holds_prefix}
use Rattle.wl_ops.proofs.DecodeLaws.{decoded_reading}
use Rattle.wl_ops.proofs.NumberLaws.{segment_is, marked_body}

-- ---- the search

or_right : (a b : Bool) → b ≡ true → (a || b) ≡ true
or_right true b e = refl
or_right false b e = e

none_holds : (hay : List ℕ) → Nowhere (Passes (is_byte 0xfc) hay) 0 (length hay) → holds_prefix hay ≡ false
none_holds [] h = refl
none_holds (x ∷ xs) h =
    let here : eqb x 0xfc ≡ false = false_from_not (eqb x 0xfc) (λ e. h 0 (omega arith) (omega arith) e) in
    rw here (none_holds xs (λ k low high p. h (suc k) (omega arith) (omega arith) p))

some_holds : (hay : List ℕ) (k : ℕ) → k < length hay → eqb (get_or hay k 0) 0xfc ≡ true → holds_prefix hay ≡ true
some_holds [] k lt e = absurd (omega arith)
some_holds (x ∷ xs) zero lt e = rw e refl
some_holds (x ∷ xs) (suc k) lt e = or_right (eqb x 0xfc) (holds_prefix xs) (some_holds xs k (omega arith) e)

pub prefix_is : (hay : List ℕ) (r : Option ℕ) → IsFirstByte (is_byte 0xfc) hay r → is_some r ≡ holds_prefix hay
prefix_is hay None h = sym (none_holds hay h)
prefix_is hay (Some k) h = sym (some_holds hay k h.0.high h.1)

-- ---- bodies without it

or_false : (a b : Bool) → (a || b) ≡ false → (a ≡ false) × (b ≡ false)
or_false true b e = absurd cc
or_false false b e = (refl, e)

holds_front : (xs ys : List ℕ) → holds_prefix (xs ++ ys) ≡ false → holds_prefix xs ≡ false
holds_front [] ys e = refl
holds_front (x ∷ xs) ys e = let b = or_false (eqb x 0xfc) (holds_prefix (xs ++ ys)) e in rw b.0 (holds_front xs ys b.1)

holds_back : (xs ys : List ℕ) → holds_prefix (xs ++ ys) ≡ false → holds_prefix ys ≡ false
holds_back [] ys e = e
holds_back (x ∷ xs) ys e = holds_back xs ys (or_false (eqb x 0xfc) (holds_prefix (xs ++ ys)) e).1

-- an operator whose bytes have none isn't on segments
no_number : (m : Marked) (place : ℕ) (text : List ℕ) (b : Bool) → is_segment m.op.code m.op.sub ≡ b → IsMarkedOp place m text → holds_prefix text ≡ false → m.number ≡ None
no_number m place text true e s h =
    let code = (segment_is m.op.code m.op.sub e).0 in
    let front : s.0 ≡ m.op.code ∷ s.3.1 = s.3.2 ∙ ap (λ (x : List ℕ). x ++ s.3.1) s.3.3 in
    let whole : text ≡ m.op.code ∷ (s.3.1 ++ s.1) = s.2 ∙ ap (λ (x : List ℕ). x ++ s.1) front in
    let yes : holds_prefix text ≡ true = ap holds_prefix whole ∙ ap (λ (k : ℕ). holds_prefix (k ∷ (s.3.1 ++ s.1))) code in
    absurd (let no = h in cc)
no_number m place text false e s h =
    let behind : IsMarkedBehind false (m.op.code, m.op.sub) (place + length s.0) (m.number, m.op.args) s.1 =
    subst (λ (b : Bool). IsMarkedBehind b (m.op.code, m.op.sub) (place + length s.0) (m.number, m.op.args) s.1) e s.4 in
    sym (ap (λ (p : Option DataIndexImm × List ℤ). p.0) behind.2)

no_numbers : (ms : List Marked) (place : ℕ) (text : List ℕ) → Items IsMarkedOp place ms text → holds_prefix text ≡ false → numbers ms ≡ []
no_numbers [] place text s h = refl
no_numbers (m ∷ ms) place text s h =
    let whole : holds_prefix (s.0 ++ s.1) ≡ false = rw (← s.2) h in
    let none = no_number m place s.0 (is_segment m.op.code m.op.sub) refl s.3 (holds_front s.0 s.1 whole) in
    rw none (no_numbers ms (place + length s.0) s.1 s.4 (holds_back s.0 s.1 whole))

by_decoding : (body : List ℕ) (r : Result (List Op) ReadError) → decoded body ≡ r → holds_prefix body ≡ false → HasNumbers [] body
by_decoding body (Ok ops) is h =
    let m = marked_body body ops (decoded_reading.found body ops is) in
    inl (m.0, m.1, sym (no_numbers m.0 (length m.1.1) m.1.2 m.1.5 (holds_back m.1.1 m.1.2 (rw (← m.1.3) h))))
by_decoding body (Err e) is h = inr (λ ops s. absurd (let yes = decoded_reading.again body ops s in cc), refl)

pub none_in : (body : List ℕ) → holds_prefix body ≡ false → HasNumbers [] body
none_in body h = by_decoding body (decoded body) refl h
