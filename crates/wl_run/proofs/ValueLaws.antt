-- Numbers that are all of some bytes.
use Rattle.std.proofs.Common.{◌≡◌, ◌≢◌, ◌==◌, ℕ, true, false, Result, Ok, Err, ℤ, List, [], ◌∷◌, ◌++◌, length, get_or, refl, append-nil, ap, sym, subst, ◌∙◌, arith}
use Rattle.wl_bytes.specs.Cursor.{Cursor}
use Rattle.wl_bytes.specs.Leb.{NumberForm, IsSigned, SignedFault, s32_form, s64_form}
use Rattle.wl_bytes.specs.Parse.{Takes, Reads}
use Rattle.wl_bytes.specs.declared.error.BytesError.{BytesError}
use Rattle.wl_numeric.specs.declared.value.Value.{Value}
use Rattle.wl_numeric.specs.declared.value.Value.TheVariants.{I32, I64}
use Rattle.wl_run.specs.Values.{HasFirstValue}
use Rattle.wl_run.specs.declared.values.TheConstants.{I32_CONST, I64_CONST}
use Rattle.std.proofs.lemmas.Bool.{false≢true}
use Rattle.std.proofs.lemmas.Bool.Decides.{nat_tests}

-- where a reader begins
abbrev pub front : List ℕ → Cursor
front text = record { position = 0; rest = text }

-- and where it ends
abbrev pub back : List ℕ → Cursor
back text = record { position = length text; rest = [] }

pub taken_whole : (form : NumberForm) (z : ℤ) (text : List ℕ) → IsSigned form 0 z text → Takes (IsSigned form) z (front text) (back text)
taken_whole form z text is = record { text = text; spelled = is; parts = sym (append-nil text); moved = omega arith }

-- what is read is all of them where nothing is left
pub read_whole : (form : NumberForm) (z : ℤ) (text : List ℕ) (to : Cursor) → Takes (IsSigned form) z (front text) to → to.rest ≡ [] → IsSigned form 0 z text
read_whole form z text to t none =
    subst (λ (x : List ℕ). IsSigned form 0 z x) (sym (append-nil t.text) ∙ ap (λ (r : List ℕ). t.text ++ r) (sym none) ∙ sym t.parts) t.spelled

-- no bytes are left, or some are
pub none_left : (r : List ℕ) → true ≡ (length r == 0) → r ≡ []
none_left [] h = refl
none_left (x ∷ r) h = absurd (grind (arith, nat_tests))

pub some_left : (r : List ℕ) → false ≡ (length r == 0) → r ≢ []
some_left r h e = grind (arith, nat_tests)

-- what a read of a number says of all bytes
abbrev pub Read : NumberForm → Result ℤ BytesError → Cursor → Cursor → Type 0
Read form result old new = Reads (IsSigned form) (SignedFault form) result old new

pub refused : (form : NumberForm) (text : List ℕ) (e : BytesError) (old new : Cursor) → Read form (Err e) old new → old ≡ front text
    → (z : ℤ) → IsSigned form 0 z text → ⊥
refused form text e old new r at z is =
    absurd (false≢true (r.only z (back text) (rw at (taken_whole form z text is))).1)

pub taken : (form : NumberForm) (text : List ℕ) (n : ℤ) (old new : Cursor) → Read form (Ok n) old new → old ≡ front text → new.rest ≡ []
    → IsSigned form 0 n text
taken form text n old new r at none = read_whole form n text new (rw at at r.found) none

pub left_over : (form : NumberForm) (text : List ℕ) (n : ℤ) (old new : Cursor) → Read form (Ok n) old new → old ≡ front text → new.rest ≢ []
    → (z : ℤ) → IsSigned form 0 z text → ⊥
left_over form text n old new r at some z is =
    some (ap (λ (c : Cursor). c.rest) (r.only z (back text) (rw at (taken_whole form z text is))).0.1)

-- the bytes after an operator are no number, and so there is no constant
pub no_word : (text : List ℕ) → ((z : ℤ) → IsSigned s32_form 0 z text → ⊥) → (v : Value) → HasFirstValue (I32_CONST ∷ text) v → ⊥
no_word text none (I32 n) h =
    let e : h.1 ≡ text = cc h.2 in
    none h.0 (subst (λ (x : List ℕ). IsSigned s32_form 0 h.0 x) e h.3)
no_word text none (I64 n) h = absurd (omega (arith, ap (λ (l : List ℕ). get_or l 0 0) h.2))

pub no_long : (text : List ℕ) → ((z : ℤ) → IsSigned s64_form 0 z text → ⊥) → (v : Value) → HasFirstValue (I64_CONST ∷ text) v → ⊥
no_long text none (I64 n) h =
    let e : h.1 ≡ text = cc h.2 in
    none h.0 (subst (λ (x : List ℕ). IsSigned s64_form 0 h.0 x) e h.3)
no_long text none (I32 n) h = absurd (omega (arith, ap (λ (l : List ℕ). get_or l 0 0) h.2))
