-- What is reported of the numbers of a body: always one list or one fault.
use Rattle.std.proofs.Common.{◌≡◌, ◌⊎◌, ℕ, ◌+◌, suc, Bool, true, false, List, [], ◌++◌, length, map, Result, Ok, Err, refl, sym, ap, subst, ◌∙◌, arith, inl, inr}
use Rattle.std.specs.Prelude.{IfOk, IfErr}
use Rattle.wl_bytes.specs.Cursor.{Cursor}
use Rattle.wl_bytes.specs.Parse.{Takes}
use Rattle.wl_bytes.specs.Grammar.{Items}
use Rattle.wl_bytes.proofs.Steps.{ok_is, err_is}
use Rattle.wl_bytes.specs.declared.read_error.ReadError.{ReadError}
use Rattle.wl_bytes.specs.declared.read_error.ReadError.TheVariants.{OutOfMemory, Malformed, Unsupported}
use Rattle.wl_bytes.specs.Outcome.{Fails, HasCause, ReadsWhole, AreAlternatives}
use Rattle.wl_bytes.specs.Lists.{start}
use Rattle.wl_bytes.specs.Checks.{Any}
use Rattle.wl_ops.specs.declared.op.Op.{Op}
use Rattle.wl_ops.specs.declared.op.DataIndexImm.{DataIndexImm}
use Rattle.wl_ops.specs.declared.op.Marked.{Marked}
use Rattle.wl_ops.specs.Decoding.{AreLocals, in_body, body_of, decoded}
use Rattle.wl_ops.specs.Numbers.{IsMarkedOp, MarkedFault, marked_at, op_in, numbers, AreMarked, HasNumbers, holds_prefix, NumbersFault, AreTold, NumbersOf}
use Rattle.wl_ops.proofs.RestLaws.{taken_whole, rest_again}
use Rattle.wl_ops.proofs.DecodeLaws.{locals_reading, dry, mid_of, decoded_reading, told_fails}
use Rattle.wl_ops.proofs.NumberLaws.{are_marked, marked_body, taken_body}
use Rattle.wl_ops.proofs.PrefixLaws.{none_in}

-- ---- one list of numbers

-- the local declarations end at one place
pub one_mid : (body a b c d : List ℕ) → Any AreLocals 0 tt a → body ≡ a ++ b → Any AreLocals 0 tt c → body ≡ c ++ d → mid_of a b ≡ mid_of c d
one_mid body a b c d s e t f =
    let one = locals_reading.again (start body) tt (mid_of a b) (record { text = a; spelled = s; parts = e; moved = omega arith }) in
    let two = locals_reading.again (start body) tt (mid_of c d) (record { text = c; spelled = t; parts = f; moved = omega arith }) in
    ap (λ (p : Unit {0} × Cursor). p.1) (ok_is {E = ReadError} (tt, mid_of a b) (tt, mid_of c d) (sym one ∙ two))

pub one_marked : (body : List ℕ) (ms ns : List Marked) → AreMarked ms body → AreMarked ns body → ms ≡ ns
one_marked body ms ns s t =
    let same = one_mid body s.1 s.2 t.1 t.2 (s.0, s.4) s.3 (t.0, t.4) t.3 in
    let end : Cursor = record { position = length t.1 + length t.2; rest = [] } in
    let one = rest_again IsMarkedOp MarkedFault marked_at dry are_marked ms (suc (length s.2)) (mid_of s.1 s.2) (record { position = length s.1 + length s.2; rest = [] })
    (omega arith) (taken_whole IsMarkedOp ms (mid_of s.1 s.2) s.5) refl in
    let two = rest_again IsMarkedOp MarkedFault marked_at dry are_marked ns (suc (length s.2)) (mid_of s.1 s.2) end
    (omega arith) (subst (λ (c : Cursor). Takes (Items IsMarkedOp) ns c end) (sym same) (taken_whole IsMarkedOp ns (mid_of t.1 t.2) t.5)) refl in
    ok_is {E = ReadError} ms ns (sym one ∙ two)

pub one_list : (body : List ℕ) (ns ks : List DataIndexImm) → HasNumbers ns body → HasNumbers ks body → ns ≡ ks
one_list body ns ks (inl n) (inl k) = n.2 ∙ ap numbers (one_marked body n.0 k.0 n.1 k.1) ∙ sym k.2
one_list body ns ks (inl n) (inr k) = absurd (k.0 (map op_in n.0) (taken_body body n.0 n.1))
one_list body ns ks (inr n) (inl k) = absurd (n.0 (map op_in k.0) (taken_body body k.0 k.1))
one_list body ns ks (inr n) (inr k) = n.1 ∙ sym k.1

-- ---- a list or a fault

-- the numbers of a body that is decoded
told_some : (body : List ℕ) (ms : List Marked) → AreMarked ms body → AreTold (numbers ms) body
told_some body ms s = (inl (ms, s, refl), λ e f. absurd (let a = decoded_reading.again body (map op_in ms) (taken_body body ms s) in let b = decoded_reading.fails body e f.1 in cc))

told_none : (body : List ℕ) → holds_prefix body ≡ false → AreTold [] body
told_none body h = (none_in body h, λ e f. absurd (let no = h in let yes = f.0 in cc))

pub no_fault : (body : List ℕ) (ns : List DataIndexImm) (e : ReadError) → AreTold ns body → ¬ NumbersFault e body
no_fault body ns e s f = s.1 e f

pub one_fault : (body : List ℕ) (e d : ReadError) → NumbersFault e body → NumbersFault d body → e ≡ d
one_fault body e d f g = err_is {A = List Op} e d (sym (decoded_reading.fails body e f.1) ∙ decoded_reading.fails body d g.1)

by_decoding : (body : List ℕ) (r : Result (List Op) ReadError) (b : Bool) → decoded body ≡ r → holds_prefix body ≡ b → ((ns : List DataIndexImm) × AreTold ns body) ⊎ ((e : ReadError) × NumbersFault e body)
by_decoding body r false is h = inl ([], told_none body h)
by_decoding body (Ok ops) true is h = let m = marked_body body ops (decoded_reading.found body ops is) in inl (numbers m.0, told_some body m.0 m.1)
by_decoding body (Err e) true is h = inr (e, (h, decoded_reading.fault body e is))

pub told_alternatives : AreAlternatives AreTold NumbersFault
told_alternatives = record {
  some = λ body. by_decoding body (decoded body) (holds_prefix body) refl refl;
  one_value = λ body ns ks s t. one_list body ns ks s.0 t.0;
  no_fault = λ body ns e s f. no_fault body ns e s f;
  one_fault = λ body e d f g. one_fault body e d f g;
}

-- ---- what a call answers

-- a value where it is spelled, and a fault where it is the case, is all that can be answered
pub reads_so : {X Y : Type 0} (view : X → Y) (spells : Y → List ℕ → Type 0) (faults : ReadError → List ℕ → Type 0) (body : List ℕ)
    → ((x y : Y) → spells x body → spells y body → x ≡ y) → ((y : Y) (e : ReadError) → spells y body → ¬ faults e body) → ((e d : ReadError) → faults e body → faults d body → e ≡ d)
    → (r : Result X ReadError) → IfOk r (λ x. spells (view x) body) → IfErr r (HasCause (λ e. faults e body)) → ReadsWhole view spells faults body r
reads_so {Y = Y} view spells faults body one not same (Ok x) s f = record {
  sound = s;
  only = λ y t. ap (λ (z : Y). Ok z) (one y (view x) t s);
  fault = tt;
  why = λ e g. absurd (not (view x) e s g);
}
reads_so view spells faults body one not same (Err OutOfMemory) s f = record { sound = tt; only = λ y t. tt; fault = tt; why = λ e g. tt }
reads_so view spells faults body one not same (Err (Malformed w)) s f = record {
  sound = tt;
  only = λ y t. absurd (not y (Malformed w) t f);
  fault = f;
  why = λ e g. ap (λ (d : ReadError). Err d) (same e (Malformed w) g f);
}
reads_so view spells faults body one not same (Err (Unsupported form)) s f = record {
  sound = tt;
  only = λ y t. absurd (not y (Unsupported form) t f);
  fault = f;
  why = λ e g. ap (λ (d : ReadError). Err d) (same e (Unsupported form) g f);
}

told_so : {X : Type 0} (view : X → List DataIndexImm) (body : List ℕ) (r : Result X ReadError) → IfOk r (λ v. AreTold (view v) body) → IfErr r (HasCause (λ e. NumbersFault e body)) → ReadsWhole view AreTold NumbersFault body r
told_so view body r s f = reads_so view AreTold NumbersFault body (λ ns ks s t. one_list body ns ks s.0 t.0) (λ ns e s f. no_fault body ns e s f) (λ e d f g. one_fault body e d f g) r s f

pub reads_none : {X : Type 0} (view : X → List DataIndexImm) (body : List ℕ) (v : X) → view v ≡ [] → holds_prefix body ≡ false → ReadsWhole view AreTold NumbersFault body (Ok v)
reads_none view body v none h = told_so view body (Ok v) (rw none (told_none body h)) tt

pub reads_some : {X : Type 0} (view : X → List DataIndexImm) (body : List ℕ) (v : X) → NumbersOf view body (Ok v) → ReadsWhole view AreTold NumbersFault body (Ok v)
reads_some view body v n = told_so view body (Ok v) (rw n.2 (told_some body n.0 n.1)) tt

fault_of : (d : ReadError) (body : List ℕ) → holds_prefix body ≡ true → Fails d (decoded body) → HasCause (λ e. NumbersFault e body) d
fault_of OutOfMemory body h f = tt
fault_of (Malformed why) body h f = (h, decoded_reading.fault body (Malformed why) f)
fault_of (Unsupported form) body h f = (h, decoded_reading.fault body (Unsupported form) f)

pub reads_fault : {X : Type 0} (view : X → List DataIndexImm) (body : List ℕ) (e : ReadError) → holds_prefix body ≡ true → Fails e (body_of body) → ReadsWhole view AreTold NumbersFault body (Err (in_body e))
reads_fault view body e h n = told_so view body (Err (in_body e)) tt (fault_of (in_body e) body h (told_fails e (body_of body) n))
