-- An expression that takes an index, operator by operator.
use Rattle.std.proofs.Common.{◌≡◌, ◌≢◌, ◌⊎◌, Bool, true, false, length, inl, inr, refl, ap, sym, ◌∙◌, subst, Result, Ok, Err, ◌<◌}
use Rattle.std.proofs.lemmas.Bool.{true≢false}
use Rattle.wl_bytes.specs.Cursor.{Cursor}
use Rattle.wl_bytes.specs.Outcome.{Fails}
use Rattle.wl_bytes.specs.declared.read_error.ReadError.{ReadError}
use Rattle.wl_bytes.specs.declared.read_error.ReadError.TheVariants.{OutOfMemory, Malformed, Unsupported}
use Rattle.wl_bytes.proofs.Steps.{ok_is}
use Rattle.wl_ops.specs.declared.op.Op.{Op}
use Rattle.wl_bytes.specs.Grammar.{map_at}
use Rattle.wl_bytes.specs.Parse.{◌>>=◌}
use Rattle.wl_ops.specs.Operators.{IsTaken, OpFault, op_at}
use Rattle.wl_ops.specs.Expressions.{is_reference, HasReference}
use Rattle.wl_ops.specs.Expressions.HasReference.{here, behind}
use Rattle.wl_ops.proofs.OpLaws.{op_reading}
use Rattle.wl_ops.proofs.RestLaws.{shortens}
use Rattle.wl_ops.proofs.DecodeLaws.{are_ops}

-- the next operator, by whether it is one
abbrev pub next_at : Cursor → Result (Bool × Cursor) ReadError
next_at a = map_at is_reference op_at a

-- what was read, by whether it is one
abbrev pub bound : Result (Op × Cursor) ReadError → Result (Bool × Cursor) ReadError
bound r = ◌>>=◌ {B = Bool × Cursor} r (λ p. Ok (is_reference p.0, p.1))

pub next_parts : (r : Result (Op × Cursor) ReadError) (is : Bool) (b : Cursor) → bound r ≡ Ok (is, b) → (op : Op) × (r ≡ Ok (op, b)) × (is_reference op ≡ is)
next_parts (Ok (op, to)) is b e =
    let same : (is_reference op, to) ≡ (is, b) = ok_is (is_reference op, to) (is, b) e in
    (op, ap (λ (p : Bool × Cursor). Ok (op, p.1)) same, ap (λ (p : Bool × Cursor). p.0) same)
next_parts (Err d) is b e = absurd (cc)

pub reference_at : (a b : Cursor) (is : Bool) → next_at a ≡ Ok (is, b) → is ≡ true → HasReference a
reference_at a b is read on = let p = next_parts (op_at a) is b read in here p.0 a b (op_reading.found a p.0 b p.1) (p.2 ∙ on)

pub reference_behind : (a b : Cursor) (is : Bool) → next_at a ≡ Ok (is, b) → HasReference b → HasReference a
reference_behind a b is read h = let p = next_parts (op_at a) is b read in behind p.0 a b (op_reading.found a p.0 b p.1) h

-- where one stands, an operator is read
pub reference_reads : (a : Cursor) → HasReference a → (op : Op) × (b : Cursor) × (op_at a ≡ Ok (op, b)) × ((is_reference op ≡ true) ⊎ HasReference b)
reference_reads a (here op _ b takes is) = (op, b, op_reading.again a op b takes, inl is)
reference_reads a (behind op _ b takes h) = (op, b, op_reading.again a op b takes, inr h)

-- what is read isn't one, so one follows it
pub reference_on : (a b : Cursor) (is : Bool) → next_at a ≡ Ok (is, b) → is ≡ false → HasReference a → HasReference b
reference_on a b is read no' h =
    let p = next_parts (op_at a) is b read in
    let r = reference_reads a h in
    let same : (p.0, b) ≡ (r.0, r.1) = ok_is (p.0, b) (r.0, r.1) (sym p.1 ∙ r.2) in
    elim r.3 [
      | inl is ↦ absurd (true≢false (sym is ∙ (ap (λ (q : Op × Cursor). is_reference q.0) (sym same) ∙ (p.2 ∙ no'))))
      | inr next ↦ subst (λ (q : Op × Cursor). HasReference q.1) (sym same) next
    ]

-- where nothing is read none stands
pub reference_none : (a : Cursor) (e : ReadError) → next_at a ≡ Err e → HasReference a → ⊥
reference_none a e read h =
    let r = reference_reads a h in
    let ok : next_at a ≡ Ok (is_reference r.0, r.1) = rw r.2 refl in
    absurd (let both : Ok (is_reference r.0, r.1) ≡ Err e = sym ok ∙ read in cc)

pub reference_fails : (a : Cursor) (e : ReadError) → Fails e (next_at a) → e ≢ OutOfMemory → HasReference a → ⊥
reference_fails a OutOfMemory f other h = other refl
reference_fails a (Malformed why) f other h = reference_none a (Malformed why) f h
reference_fails a (Unsupported form) f other h = reference_none a (Unsupported form) f h

-- a read operator has a byte at least
pub next_shortens : (a b : Cursor) (is : Bool) → next_at a ≡ Ok (is, b) → length b.rest < length a.rest
next_shortens a b is read = let p = next_parts (op_at a) is b read in shortens IsTaken OpFault op_at are_ops p.0 a b (op_reading.found a p.0 b p.1)
