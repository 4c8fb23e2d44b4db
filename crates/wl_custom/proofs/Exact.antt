-- What is read is determined by its bytes: one value, or one fault.
use Rattle.std.proofs.Common.{◌≡◌, ℕ, List, [], ◌++◌, Result, Ok, Err, refl, ap, subst, ◌∙◌, arith, length, inl, inr}
use Rattle.std.specs.Prelude.{MatchResult}
use Rattle.wl_bytes.specs.Cursor.{Cursor}
use Rattle.wl_bytes.specs.Parse.{Takes}
use Rattle.wl_bytes.proofs.Steps.{bind_ok, bind_err, ok_is}
use Rattle.wl_bytes.proofs.Readings.{IsReading}
use Rattle.wl_bytes.specs.Grammar.{map_at}
use Rattle.wl_bytes.proofs.GrammarLaws.{cursor_is, seen_reading}
use Rattle.wl_bytes.specs.declared.read_error.ReadError.{ReadError}
use Rattle.wl_bytes.specs.declared.read_error.ReadError.TheVariants.{OutOfMemory, Malformed, Unsupported}
use Rattle.wl_bytes.specs.Outcome.{Fails, HasCause}
use Rattle.wl_bytes.specs.Checks.{NoFault, Seen}
use Rattle.wl_bytes.proofs.ListLaws.{IsWholeReading}
use Rattle.wl_custom.specs.Verdict.{Judged, JudgedFault, judged_at, Inside, InsideFault, IsHere, here_at}

-- what has a cause has another that follows from it
pub cause_follows : (P Q : ReadError → Type 0) → ((e : ReadError) → P e → Q e) → (e : ReadError) → HasCause P e → HasCause Q e
cause_follows P Q step OutOfMemory h = tt
cause_follows P Q step (Malformed why) h = step (Malformed why) h
cause_follows P Q step (Unsupported form) h = step (Unsupported form) h

-- and so it is with all that a call may answer
pub answer_follows : {X : Type 0} (P Q : X → Type 0) (Cause Other : ReadError → Type 0) → ((x : X) → P x → Q x) → ((e : ReadError) → Cause e → Other e)
    → (r : Result X ReadError) → MatchResult r P (HasCause Cause) → MatchResult r Q (HasCause Other)
answer_follows P Q Cause Other step other (Ok x) h = step x h
answer_follows P Q Cause Other step other (Err e) h = cause_follows Cause Other other e h

-- a reading that fails has its cause
pub failed : {Y : Type 0} (P : ReadError → Type 0) (read : Result Y ReadError) → ((e : ReadError) → read ≡ Err e → P e) → (e : ReadError) → Fails e read → HasCause P e
failed P read step OutOfMemory f = tt
failed P read step (Malformed why) f = step (Malformed why) f
failed P read step (Unsupported form) f = step (Unsupported form) f

-- a verdict is a reading of no byte
pub judged_reading : {X : Type 0} (verdict : Result X ReadError) → IsReading (Judged verdict) (JudgedFault verdict) (judged_at verdict)
judged_reading {X} verdict = record {
  found = λ c x to e.
      let a = bind_ok verdict (λ x. Ok (x, c)) (x, to) e in
      subst (λ (r : X × Cursor). Takes (Judged verdict) r.0 c r.1) (ok_is {E = ReadError} (a.0, c) (x, to) a.2) (record { text = []; spelled = (refl, a.1); parts = refl; moved = omega arith });
  again = λ c x to t.
      let same : c ≡ to = cursor_is c to (omega (arith, t.moved, ap length t.spelled.0)) (t.parts ∙ ap (λ (r : List ℕ). r ++ to.rest) t.spelled.0) in
      rw (t.spelled.1, same) refl;
  fault = λ c e is.
      elim (bind_err verdict (λ x. Ok (x, c)) e is) [
        | inl h ↦ h
        | inr h ↦ absurd (let g = h.2 in cc)
      ];
  fails = λ c e h. rw h refl;
}

-- what was read before is read as it is by itself
pub inside_reading : {X : Type 0} (spells : X → List ℕ → Type 0) (faults : ReadError → List ℕ → Type 0) (read : List ℕ → Result X ReadError) → IsWholeReading spells faults read
    → (payload : List ℕ) → IsReading (Inside spells payload) (InsideFault faults payload) (λ c. judged_at (read payload) c)
inside_reading {X} spells faults read law payload =
    let judged = judged_reading (read payload) in
    record {
      found = λ c x to e. let t = judged.found c x to e in record { text = t.text; spelled = (t.spelled.0, law.found payload x t.spelled.1); parts = t.parts; moved = t.moved };
      again = λ c x to t. judged.again c x to (record { text = t.text; spelled = (t.spelled.0, law.again payload x t.spelled.1); parts = t.parts; moved = t.moved });
      fault = λ c e is. law.fault payload e (judged.fault c e is);
      fails = λ c e f. judged.fails c e (law.fails payload e f);
    }

-- what is read, seen otherwise
pub seen_as : {X Y : Type 0} (spells : ℕ → X → List ℕ → Type 0) (wrong : ReadError → Cursor → Type 0) (read : Cursor → Result (X × Cursor) ReadError) (view : X → Y)
    → IsReading spells wrong read → IsReading (Seen spells view) wrong (map_at view read)
seen_as spells wrong read view law = seen_reading spells (Seen spells view) wrong read view (λ place x text s. (x, s, refl)) (λ place y text s. s) law

-- how many bytes lie before is read of no byte
pub here_reading : IsReading {E = ReadError} IsHere NoFault here_at
here_reading = record {
  found = λ c n to e. let p = ok_is {E = ReadError} (c.position, c) (n, to) e in subst (λ (r : ℕ × Cursor). Takes IsHere r.0 c r.1) p (record { text = []; spelled = (refl, refl); parts = refl; moved = omega arith });
  again = λ c n to t.
      let same : c ≡ to = cursor_is c to (omega (arith, t.moved, ap length t.spelled.0)) (t.parts ∙ ap (λ (r : List ℕ). r ++ to.rest) t.spelled.0) in
      rw (t.spelled.1, same) refl;
  fault = λ c e is. absurd cc;
  fails = λ c e f. absurd f;
}
