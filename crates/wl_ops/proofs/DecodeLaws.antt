-- Bodies are decoded as they are spelled.
use Rattle.std.proofs.Common.{◌≡◌, ◌≢◌, ℕ, suc, ◌+◌, ◌≤◌, Bool, true, false, cond, eqb, List, [], ◌∷◌, ◌++◌, length, Result, Ok, Err, refl, sym, ap, subst, ◌∙◌, arith, inl, inr}
use Rattle.std.specs.Prelude.{IfOk}
use Rattle.std.specs.List.{AllByRecursion}
use Rattle.std.proofs.lemmas.Bool.{eqb-true}
use Rattle.std.proofs.lemmas.List.{append-nil, nil_from_length}
use Rattle.wl_bytes.specs.Cursor.{Cursor}
use Rattle.wl_bytes.specs.Parse.{Takes}
use Rattle.wl_bytes.specs.Leb.{IsU32}
use Rattle.wl_bytes.specs.Items.{IsByte}
use Rattle.wl_bytes.specs.Grammar.{Items, error_of}
use Rattle.wl_bytes.proofs.Steps.{bind_ok, bind_err, ok_is, err_is}
use Rattle.wl_bytes.proofs.Readings.{IsReading}
use Rattle.wl_bytes.proofs.GrammarLaws.{then_reading}
use Rattle.wl_bytes.specs.declared.read_error.Why.TheVariants.{Truncated, BadByte}
use Rattle.wl_bytes.specs.declared.read_error.ReadError.{ReadError}
use Rattle.wl_bytes.specs.declared.read_error.ReadError.TheVariants.{OutOfMemory, Malformed, Unsupported}
use Rattle.wl_bytes.specs.Outcome.{Fails, Gives}
use Rattle.wl_bytes.specs.Lists.{NumberFault, number_at, ByteFault, one_byte_at, list_at, start}
use Rattle.wl_bytes.specs.Checks.{Where, WhereFault, unless, where_at, Any, any_at}
use Rattle.wl_bytes.proofs.ListLaws.{number_reading, one_byte_reading, list_reading, IsWholeReading}
use Rattle.wl_bytes.proofs.CheckLaws.{where_reading, any_reading}
use Rattle.wl_ops.specs.declared.op.Op.{Op}
use Rattle.wl_ops.specs.Immediates.{is_value_type}
use Rattle.wl_ops.specs.Operators.{IsOp, IsTaken, is_taken, OpFault, op_at}
use Rattle.wl_ops.specs.Decoding.{IsLocal, LocalFault, local_at, AreLocals, LocalsFault, is_ended, AreTaken, OpsFault, PartFault, in_body, DecodeFault, kept_if, rest_of, ops_of, body_of, decoded, list_items}
use Rattle.wl_ops.proofs.OpLaws.{op_reading}
use Rattle.wl_ops.proofs.RestLaws.{AreItems, taken_whole, rest_found, rest_again, rest_fault, rest_fails}

-- ---- local declarations

local_reading : IsReading IsLocal LocalFault local_at
unfolding local_at
local_reading = then_reading IsU32 (λ _. Where IsByte is_value_type) NumberFault (λ _. WhereFault IsByte ByteFault (unless is_value_type (Malformed BadByte))) number_at (λ _. where_at one_byte_at is_value_type (Malformed BadByte))
    number_reading (λ _. where_reading IsByte ByteFault one_byte_at is_value_type (Malformed BadByte) one_byte_reading)

pub locals_reading : IsReading (Any AreLocals) LocalsFault (any_at (list_at local_at))
locals_reading = any_reading AreLocals LocalsFault (list_at local_at) (list_reading IsLocal LocalFault local_at local_reading)

-- ---- operators to the end

pub byte_first : (text front back one more : List ℕ) (b : ℕ) → text ≡ front ++ back → front ≡ one ++ more → one ≡ b ∷ [] → text ≢ []
byte_first text front back one more b e f g none = absurd (let h : text ≡ ((b ∷ []) ++ more) ++ back = rw (e, f, g) refl in cc)

pub are_ops : AreItems IsTaken OpFault op_at
are_ops = record {
  each = op_reading;
  some = λ place op text s. byte_first text s.0.0 s.0.1 s.0.3.0 s.0.3.1 op.code s.0.2 s.0.3.2 s.0.3.3;
}

abbrev pub dry : ReadError
dry = Malformed Truncated

-- what is kept
kept_ok : (ops kept : List Op) (b : Bool) → is_ended ops ≡ b → kept_if ops ≡ Ok kept → (is_ended ops ≡ true) × (ops ≡ kept)
kept_ok ops kept true e h = (e, ok_is {E = ReadError} ops kept (rw e at h))
kept_ok ops kept false e h = absurd (let no = rw e at h in cc)

kept_err : (ops : List Op) (d : ReadError) (b : Bool) → is_ended ops ≡ b → kept_if ops ≡ Err d → (is_ended ops ≡ false) × (d ≡ dry)
kept_err ops d true e h = absurd (let no = rw e at h in cc)
kept_err ops d false e h = (e, sym (err_is {A = List Op} dry d (rw e at h)))

ops_found : (c : Cursor) (ops : List Op) → ops_of c ≡ Ok ops → (to : Cursor) × Takes (Items IsTaken) ops c to × (to.rest ≡ []) × (is_ended ops ≡ true)
unfolding ops_of
ops_found c ops e =
    let a = bind_ok (rest_of op_at dry (suc (length c.rest)) c) kept_if ops e in
    let k = kept_ok a.0 ops (is_ended a.0) refl a.2 in
    let r = rest_found IsTaken OpFault op_at dry are_ops (suc (length c.rest)) c a.0 a.1 in
    subst (λ (os : List Op). (to : Cursor) × Takes (Items IsTaken) os c to × (to.rest ≡ []) × (is_ended os ≡ true)) k.1 (r.0, r.1, r.2, k.0)

pub ops_read : (c to : Cursor) (ops : List Op) → Takes (Items IsTaken) ops c to → to.rest ≡ [] → ops_of c ≡ kept_if ops
unfolding ops_of
ops_read c to ops t none = rw (rest_again IsTaken OpFault op_at dry are_ops ops (suc (length c.rest)) c to (omega arith) t none) refl

ops_again : (c to : Cursor) (ops : List Op) → Takes (Items IsTaken) ops c to → to.rest ≡ [] → is_ended ops ≡ true → ops_of c ≡ Ok ops
ops_again c to ops t none e = rw (ops_read c to ops t none, e) refl

ops_fault : (c : Cursor) (e : ReadError) → ops_of c ≡ Err e → OpsFault e c
unfolding ops_of
ops_fault c e is =
    elim (bind_err (rest_of op_at dry (suc (length c.rest)) c) kept_if e is) [
      | inl f ↦
          let r = rest_fault IsTaken OpFault op_at dry are_ops (suc (length c.rest)) c e (omega arith) f in
          (r.0, r.1, r.2, inl (r.3, r.4))
      | inr f ↦
          let r = rest_found IsTaken OpFault op_at dry are_ops (suc (length c.rest)) c f.0 f.1 in
          let k = kept_err f.0 e (is_ended f.0) refl f.2 in
          (f.0, r.0, r.1, inr (r.2, k.0, k.1))
    ]

pub ops_stop : (c mid : Cursor) (ops : List Op) (e : ReadError) → Takes (Items IsTaken) ops c mid → mid.rest ≢ [] → OpFault e mid → ops_of c ≡ Err e
unfolding ops_of
ops_stop c mid ops e t some w = rw (rest_fails IsTaken OpFault op_at dry are_ops ops (suc (length c.rest)) c mid e (omega arith) t some w) refl

ops_fails : (c : Cursor) (e : ReadError) → OpsFault e c → ops_of c ≡ Err e
ops_fails c e f =
    elim f.3 [
      | inl w ↦ ops_stop c f.1 f.0 e f.2 w.0 w.1
      | inr w ↦ rw (ops_read c f.1 f.0 f.2 w.0, w.1, w.2) refl
    ]

-- ---- bodies

-- operators that are taken are operators of the table, none of which is on element segments
pub all_taken : (ops : List Op) (place : ℕ) (text : List ℕ) → Items IsTaken place ops text → Items IsOp place ops text × AllByRecursion (λ op. is_taken op ≡ true) ops
all_taken [] place text s = (s, tt)
all_taken (op ∷ ops) place text s =
    let more = all_taken ops (place + length s.0) s.1 s.4 in
    ((s.0, s.1, s.2, s.3.0, more.0), (s.3.1, more.1))

pub are_taken : (ops : List Op) (place : ℕ) (text : List ℕ) → Items IsOp place ops text → AllByRecursion (λ op. is_taken op ≡ true) ops → Items IsTaken place ops text
are_taken [] place text s a = s
are_taken (op ∷ ops) place text s a = (s.0, s.1, s.2, (s.3, a.0), are_taken ops (place + length s.0) s.1 s.4 a.1)

-- local declarations, and operators after them to the end
pub as_body : (body : List ℕ) (ops : List Op) (mid to : Cursor) → Takes (Any AreLocals) tt (start body) mid → Takes (Items IsTaken) ops mid to → to.rest ≡ [] → is_ended ops ≡ true → AreTaken ops body
as_body body ops mid to t u none e =
    let place : mid.position ≡ length t.text = omega (arith, t.moved) in
    let back : mid.rest ≡ u.text = u.parts ∙ ap (λ (r : List ℕ). u.text ++ r) none ∙ append-nil u.text in
    let s = all_taken ops mid.position u.text u.spelled in
    ((t.spelled.0, t.text, u.text, t.parts ∙ ap (λ (r : List ℕ). t.text ++ r) back, t.spelled.1, subst (λ (n : ℕ). Items IsOp n ops u.text) place s.0, e), s.1)

-- the place after the local declarations
abbrev pub mid_of : (front back : List ℕ) → Cursor
mid_of front back = record { position = length front; rest = back }

abbrev pub locals_taken : (body : List ℕ) (ops : List Op) (s : AreTaken ops body) → Takes (Any AreLocals) tt (start body) (mid_of s.0.1 s.0.2)
locals_taken body ops s = record { text = s.0.1; spelled = (s.0.0, s.0.4); parts = s.0.3; moved = omega arith }

abbrev pub ops_taken : (body : List ℕ) (ops : List Op) (s : AreTaken ops body) → Takes (Items IsTaken) ops (mid_of s.0.1 s.0.2) (record { position = length s.0.1 + length s.0.2; rest = [] })
ops_taken body ops s = taken_whole IsTaken ops (mid_of s.0.1 s.0.2) (are_taken ops (length s.0.1) s.0.2 s.0.5 s.1)

pub body_found : (body : List ℕ) (ops : List Op) → body_of body ≡ Ok ops → AreTaken ops body
unfolding body_of
body_found body ops e =
    let a = bind_ok (any_at (list_at local_at) (start body)) (λ (p : Unit {0} × Cursor). ops_of p.1) ops e in
    let o = ops_found a.0.1 ops a.2 in
    as_body body ops a.0.1 o.0 (locals_reading.found (start body) a.0.0 a.0.1 a.1) o.1 o.2 o.3

pub body_again : (body : List ℕ) (ops : List Op) → AreTaken ops body → body_of body ≡ Ok ops
unfolding body_of
body_again body ops s =
    rw (
      locals_reading.again (start body) tt (mid_of s.0.1 s.0.2) (locals_taken body ops s),
      ops_again (mid_of s.0.1 s.0.2) (record { position = length s.0.1 + length s.0.2; rest = [] }) ops (ops_taken body ops s) refl s.0.6,
    ) refl

pub body_fault : (body : List ℕ) (e : ReadError) → body_of body ≡ Err e → PartFault e body
unfolding body_of
body_fault body e is =
    elim (bind_err (any_at (list_at local_at) (start body)) (λ (p : Unit {0} × Cursor). ops_of p.1) e is) [
      | inl f ↦ inl (locals_reading.fault (start body) e f)
      | inr f ↦ inr (f.0.0, f.0.1, locals_reading.found (start body) f.0.0 f.0.1 f.1, ops_fault f.0.1 e f.2)
    ]

pub body_fails : (body : List ℕ) (e : ReadError) → PartFault e body → body_of body ≡ Err e
unfolding body_of
body_fails body e f =
    elim f [
      | inl w ↦ rw (locals_reading.fails (start body) e w) refl
      | inr w ↦ rw (locals_reading.again (start body) w.0 w.1 w.2, ops_fails w.1 e w.3) refl
    ]

told_ok : (r : Result (List Op) ReadError) (ops : List Op) → error_of in_body r ≡ Ok ops → r ≡ Ok ops
told_ok (Ok os) ops e = cc
told_ok (Err d) ops e = absurd cc

told_err : (r : Result (List Op) ReadError) (e : ReadError) → error_of in_body r ≡ Err e → (d : ReadError) × (r ≡ Err d) × (in_body d ≡ e)
told_err (Ok os) e is = absurd cc
told_err (Err d) e is = (d, refl, err_is {A = List Op} (in_body d) e is)

pub decoded_reading : IsWholeReading AreTaken DecodeFault decoded
decoded_reading = record {
  found = λ body ops e. body_found body ops (told_ok (body_of body) ops e);
  again = λ body ops s. rw (body_again body ops s) refl;
  fault = λ body e is. let d = told_err (body_of body) e is in (d.0, sym d.2, body_fault body d.0 d.1);
  fails = λ body e f. rw (body_fails body f.0 f.2, f.1) refl;
}

-- ---- as the code reads

-- the last one says whether they are ended
pub ended-push : (ops : List Op) (op : Op) → is_ended (ops ++ op ∷ []) ≡ eqb op.code 0x0b
ended-push [] op = refl
ended-push (o ∷ []) op = refl
ended-push (o ∷ next ∷ ops) op = ended-push (next ∷ ops) op

-- what comes after some operators is at fault
stop_so : (ops : List Op) (c mid : Cursor) (e : ReadError) → Takes (Items IsTaken) ops c mid → eqb (length mid.rest) 0 ≡ false → op_at mid ≡ Err e → ops_of c ≡ Err e
stop_so ops c mid e t some is = ops_stop c mid ops e t (λ none. absurd (let yes : eqb (length mid.rest) 0 ≡ true = rw none refl in cc)) (op_reading.fault mid e is)

pub stops_so : (ops : List Op) (c mid : Cursor) (e : ReadError) → Takes (Items IsTaken) ops c mid → eqb (length mid.rest) 0 ≡ false → Fails e (op_at mid) → Fails e (ops_of c)
stops_so ops c mid OutOfMemory t some is = tt
stops_so ops c mid (Malformed why) t some is = stop_so ops c mid (Malformed why) t some is
stops_so ops c mid (Unsupported form) t some is = stop_so ops c mid (Unsupported form) t some is

-- all bytes are read
pub ends_so : (ops : List Op) (c mid : Cursor) (b : Bool) → Takes (Items IsTaken) ops c mid → eqb (length mid.rest) 0 ≡ true → is_ended ops ≡ b → ops_of c ≡ cond b (Ok ops) (Err dry)
ends_so ops c mid b t none e = rw (ops_read c mid ops t (nil_from_length mid.rest (eqb-true (length mid.rest) 0 none)), e) refl

-- the bound of a body's fault is that of what is reported
pub told_fails : (d : ReadError) (r : Result (List Op) ReadError) → Fails d r → Fails (in_body d) (error_of in_body r)
told_fails OutOfMemory r h = tt
told_fails (Malformed why) r h = rw h refl
told_fails (Unsupported form) r h = rw h refl

-- what holds of the operators of any body holds of those that are given
pub few_of : {X : Type 0} (view : X → List Op) (body : List ℕ) (r : Result X ReadError) → ((ops : List Op) (body : List ℕ) → AreTaken ops body → list_items ops ≤ length body)
    → Gives view r (decoded body) → IfOk r (λ x. list_items (view x) ≤ length body)
few_of view body (Ok x) few is = few (view x) body (decoded_reading.found body (view x) is)
few_of view body (Err e) few is = tt
