-- The laws of constant expressions.
use Rattle.std.proofs.Common.{◌≡◌, ◌≢◌, ℕ, ◌+◌, ◌-◌, ◌<◌, true, false, List, [], ◌∷◌, ◌++◌, length, take, Option, Some, None, Ok, Err, refl, sym, ap, subst, ◌∙◌, arith, inl, inr, append_assoc, length-append}
use Rattle.std.proofs.lemmas.List.{take_at}
use Rattle.std.specs.Prelude.{is_some}
use Rattle.wl_bytes.specs.Cursor.{Cursor}
use Rattle.wl_bytes.specs.Parse.{Takes}
use Rattle.wl_bytes.specs.Leb.{form_of, IsSigned, SignedFault}
use Rattle.wl_bytes.specs.Reading as bytes
use Rattle.wl_bytes.specs.Grammar.{Items}
use Rattle.wl_bytes.specs.declared.leb.LebForm.{LebForm}
use Rattle.wl_bytes.specs.declared.leb.LebForm.TheVariants.{S32, S64}
use Rattle.wl_bytes.proofs.Readings.{IsReading}
use Rattle.wl_bytes.proofs.SignedLaws.{signed_reading}
use Rattle.wl_bytes.proofs.GrammarLaws.{map_reading, error_reading, take_nothing, nothing_taken, cons_text, first_of_items}
use Rattle.wl_module.specs.declared.constants.ConstOperator.{ConstOperator}
use Rattle.wl_module.specs.declared.constants.ConstOperator.TheVariants.{I32Const, I64Const, F32Const, F64Const, GlobalGet, RefNull, RefFunc, I32Add, I32Sub, I32Mul, I64Add, I64Sub, I64Mul, Vector}
use Rattle.wl_bytes.specs.declared.read_error.Why.TheVariants.{Truncated}
use Rattle.wl_bytes.specs.declared.read_error.Form.TheVariants.{ConstOperator as OtherOperator, Operator}
use Rattle.wl_bytes.specs.declared.read_error.ReadError.{ReadError}
use Rattle.wl_bytes.specs.declared.read_error.ReadError.TheVariants.{OutOfMemory, Malformed, Unsupported}
use Rattle.wl_bytes.specs.Error.{read_error}
use Rattle.wl_bytes.specs.Outcome.{Fails}
use Rattle.wl_bytes.specs.Lists.{IsCoded, CodedFault}
use Rattle.wl_module.specs.Types.{value_type_code, value_types, is_reference}
use Rattle.wl_bytes.specs.Checks.{Any}
use Rattle.wl_bytes.specs.Ends.{Ended, EndedFault, ended_at}
use Rattle.wl_module.specs.Constants.{operator_code, step_code, all_steps, first_at, IsReference, ReferenceFault, reference_at, is_vector_const, IsVector, VectorFault, vector_at, IsConstImmediate, ConstImmediateFault, const_immediate_at, IsOperator, IsStepImmediate, IsStep, StepImmediateFault, StepFault, step_immediate_at, step_at, IsExpression, ExpressionFault, expression_at}
use Rattle.wl_bytes.specs.Lists.{SignedNumberFault, signed_number_at}
use Rattle.wl_bytes.proofs.ReadingLaws.{respelled, either, reading_by, both}
use Rattle.wl_bytes.proofs.ListLaws.{AreAll, coded_reading, number_reading}
use Rattle.wl_module.proofs.TypeLaws.{all_value_types}
use Rattle.wl_module.proofs.BodyLaws.{stretch_reading}
use Rattle.wl_bytes.proofs.CheckLaws.{where_reading, any_reading, nothing_reading}
use Rattle.wl_bytes.proofs.EndLaws.{AreSteps, end_of_items, step_shortens, ended_reading}

-- ---- the first bytes

all_first : AreAll step_code all_steps
all_first None = refl
all_first (Some I32Const) = refl
all_first (Some I64Const) = refl
all_first (Some F32Const) = refl
all_first (Some F64Const) = refl
all_first (Some GlobalGet) = refl
all_first (Some RefNull) = refl
all_first (Some RefFunc) = refl
all_first (Some I32Add) = refl
all_first (Some I32Sub) = refl
all_first (Some I32Mul) = refl
all_first (Some I64Add) = refl
all_first (Some I64Sub) = refl
all_first (Some I64Mul) = refl
all_first (Some Vector) = refl

first_reading : IsReading (IsCoded step_code) (CodedFault step_code (λ _. Unsupported OtherOperator)) first_at
unfolding first_at
first_reading = coded_reading step_code all_steps (λ _. Unsupported OtherOperator) all_first

-- ---- what follows them

signed_number_reading : (f : LebForm) → IsReading (IsSigned (form_of f)) (SignedNumberFault (form_of f)) (signed_number_at (form_of f))
signed_number_reading f = error_reading (IsSigned (form_of f)) (SignedFault (form_of f)) (bytes.signed_at (form_of f)) read_error (signed_reading f)

reference_reading : IsReading (Any IsReference) ReferenceFault reference_at
unfolding reference_at
reference_reading = any_reading _ _ _ (where_reading _ _ _ is_reference (Unsupported Operator) (coded_reading value_type_code value_types (λ _. Unsupported Operator) all_value_types))

vector_reading : IsReading (Any IsVector) VectorFault vector_at
unfolding vector_at
vector_reading = any_reading _ _ _ (both (where_reading _ _ _ is_vector_const (Unsupported OtherOperator) number_reading) (λ _. stretch_reading 16))

immediate_reading : (o : ConstOperator) → IsReading (IsConstImmediate o) (ConstImmediateFault o) (const_immediate_at o)
unfolding const_immediate_at
immediate_reading I32Const = any_reading _ _ _ (signed_number_reading S32)
immediate_reading I64Const = any_reading _ _ _ (signed_number_reading S64)
immediate_reading F32Const = any_reading _ _ _ (stretch_reading 4)
immediate_reading F64Const = any_reading _ _ _ (stretch_reading 8)
immediate_reading GlobalGet = any_reading _ _ _ number_reading
immediate_reading RefNull = reference_reading
immediate_reading RefFunc = any_reading _ _ _ number_reading
immediate_reading I32Add = nothing_reading
immediate_reading I32Sub = nothing_reading
immediate_reading I32Mul = nothing_reading
immediate_reading I64Add = nothing_reading
immediate_reading I64Sub = nothing_reading
immediate_reading I64Mul = nothing_reading
immediate_reading Vector = vector_reading

step_immediate_reading : (o : Option ConstOperator) → IsReading (IsStepImmediate o) (StepImmediateFault o) (step_immediate_at o)
step_immediate_reading None = nothing_reading
step_immediate_reading (Some o) = immediate_reading o

-- ---- operators

pub step_reading : IsReading IsStep StepFault step_at
unfolding step_at
step_reading = map_reading _ IsStep StepFault _ (λ p. p.0) (λ o. (o, tt)) (λ place p text s. s) (λ place o text s. (s, refl)) (both first_reading step_immediate_reading)

some_step : (text back : List ℕ) (b : ℕ) (front : List ℕ) → text ≡ front ++ back → front ≡ b ∷ [] → text ≢ []
some_step text back b front e f none = absurd (let whole : text ≡ b ∷ back = e ∙ ap (λ (x : List ℕ). x ++ back) f in cc)

pub are_steps : AreSteps IsStep StepFault step_at
are_steps = record { each = step_reading; some = λ place x text s. some_step text s.1 (operator_code x) s.0 s.2 s.3 }

-- ---- expressions

abbrev pub steps_reading : IsReading (Ended IsStep) (EndedFault IsStep StepFault) (ended_at step_at (Malformed Truncated))
steps_reading = ended_reading IsStep StepFault step_at (Malformed Truncated) are_steps

-- the end is one byte
end_is : (place : ℕ) (text : List ℕ) → IsStep place None text → text ≡ 0x0b ∷ []
end_is place text s = s.2 ∙ ap (λ (x : List ℕ). x ++ s.1) s.3 ∙ ap (λ (x : List ℕ). 0x0b ∷ x) s.4

abbrev is_end : (place : ℕ) → IsStep place None (0x0b ∷ [])
is_end place = (0x0b ∷ [], [], refl, refl, refl)

-- the operators and the end as an expression
pub as_expression : (os : List ConstOperator) (c to : Cursor) (t : Takes (Ended IsStep) os c to) → Takes IsExpression t.spelled.0 c to
as_expression os c to t = record {
  text = t.text;
  spelled = (os, t.spelled.2 ∙ ap (λ (x : List ℕ). t.spelled.0 ++ x) (end_is (c.position + length t.spelled.0) t.spelled.1 t.spelled.4), t.spelled.3);
  parts = t.parts;
  moved = t.moved;
}

abbrev as_steps : (body : List ℕ) (c to : Cursor) (t : Takes IsExpression body c to) → Takes (Ended IsStep) t.spelled.0 c to
as_steps body c to t = record {
  text = t.text;
  spelled = (body, 0x0b ∷ [], t.spelled.1, t.spelled.2, is_end (c.position + length body));
  parts = t.parts;
  moved = t.moved;
}

-- all of it but its last byte
body_is : (body : List ℕ) (c to : Cursor) → Takes IsExpression body c to → take (to.position - c.position - 1) c.rest ≡ body
body_is body c to t =
    let len : to.position - c.position - 1 ≡ length body = omega (arith, t.moved, ap length t.spelled.1, length-append body (0x0b ∷ [])) in
    let whole : c.rest ≡ body ++ (0x0b ∷ to.rest) = t.parts ∙ ap (λ (x : List ℕ). x ++ to.rest) t.spelled.1 ∙ append_assoc body (0x0b ∷ []) to.rest in
    rw (len, whole) (take_at body (0x0b ∷ to.rest) (length body) refl)

pub expression_reading : IsReading IsExpression ExpressionFault expression_at
unfolding expression_at
expression_reading = reading_by IsExpression ExpressionFault expression_at
    (λ c body to t. rw (steps_reading.again c t.spelled.0 to (as_steps body c to t), body_is body c to t) refl)
    (λ c e f. rw (steps_reading.fails c e f) refl)
    (λ c. elim (either steps_reading c) [ inl t ↦ inl (t.2.spelled.0, t.1, as_expression t.0 c t.1 t.2) | inr f ↦ inr f ])

-- ---- the loop

-- after some operators of the expression at a place
pub record AreSkipped (os : List ConstOperator) (a b : Cursor) : Type 0 where
  pub stand : Takes (Items IsOperator) os a b

one_more : (os : List ConstOperator) (o : ConstOperator) (a b c : Cursor) → Takes (Items IsOperator) os a b → Takes IsOperator o b c → Takes (Items IsOperator) (os ++ o ∷ []) a c
one_more [] o a b c t u = cons_text IsOperator o [] a c c (subst (λ (d : Cursor). Takes IsOperator o d c) (sym (nothing_taken IsOperator a b t)) u) (take_nothing IsOperator c)
one_more (p ∷ os) o a b c t u =
    let f = first_of_items IsOperator p os a b t in
    cons_text IsOperator p (os ++ o ∷ []) a f.0 c f.1 (one_more os o f.0 b c f.2 u)

step_taken : (o : ConstOperator) (b c : Cursor) → step_at b ≡ Ok (Some o, c) → Takes IsOperator o b c
step_taken o b c e = let t = step_reading.found b (Some o) c e in respelled t t.spelled

pub skips_more : (os : List ConstOperator) (o : Option ConstOperator) (a b c : Cursor) → is_some o ≡ true → AreSkipped os a b → step_at b ≡ Ok (o, c) → (qs : List ConstOperator) × AreSkipped qs a c
skips_more os None a b c some h e = absurd cc
skips_more os (Some o) a b c some h e = (os ++ o ∷ [], record { stand = one_more os o a b c h.stand (step_taken o b c e) })

pub skips_less : (o : Option ConstOperator) (b c : Cursor) → is_some o ≡ true → step_at b ≡ Ok (o, c) → length c.rest < length b.rest
skips_less None b c some e = absurd cc
skips_less (Some o) b c some e = step_shortens IsStep StepFault step_at are_steps o b c (step_taken o b c e)

pub expression_ends : (os : List ConstOperator) (o : Option ConstOperator) (a b c : Cursor) → is_some o ≡ false → AreSkipped os a b → step_at b ≡ Ok (o, c) → expression_at a ≡ Ok (take (b.position - a.position) a.rest, c)
expression_ends os (Some o) a b c none h e = absurd cc
expression_ends os None a b c none h e =
    let t = end_of_items IsStep os a b c h.stand (step_reading.found b None c e) in
    let x = as_expression os a c t in
    let len : b.position - a.position ≡ length h.stand.text = omega (arith, h.stand.moved) in
    let front : take (b.position - a.position) a.rest ≡ h.stand.text = rw (len, h.stand.parts) (take_at h.stand.text b.rest (length h.stand.text) refl) in
    rw front (expression_reading.again a h.stand.text c x)

fails_so : (os : List ConstOperator) (a b : Cursor) (e : ReadError) → AreSkipped os a b → step_at b ≡ Err e → expression_at a ≡ Err e
fails_so os a b e h is = expression_reading.fails a e (os, b, h.stand, step_reading.fault b e is)

pub expression_fails : (os : List ConstOperator) (a b : Cursor) (e : ReadError) → AreSkipped os a b → Fails e (step_at b) → Fails e (expression_at a)
expression_fails os a b OutOfMemory h is = tt
expression_fails os a b (Malformed why) h is = fails_so os a b (Malformed why) h is
expression_fails os a b (Unsupported form) h is = fails_so os a b (Unsupported form) h is
