-- Operators are read with the numbers in them as they are read without.
use Rattle.std.proofs.Common.{◌≡◌, ◌<◌, ◌⊎◌, ℕ, ℤ, ◌+◌, Bool, true, false, cond, eqb, List, [], ◌∷◌, ◌++◌, length, map, Option, Some, None, Result, Ok, Err, refl, sym, ap, subst, ◌∙◌, arith, inl, inr}
use Rattle.std.specs.Prelude.{◌||◌, ◌&&◌}
use Rattle.std.specs.List.{cons_option}
use Rattle.std.specs.Option.{option_to_list}
use Rattle.std.proofs.lemmas.List.Elements.{filter_map-append}
use Rattle.std.proofs.lemmas.Bool.{eqb-true}
use Rattle.std.proofs.lemmas.List.{append-nil}
use Rattle.wl_bytes.specs.Cursor.{Cursor}
use Rattle.wl_bytes.specs.Parse.{Takes, ◌>>=◌}
use Rattle.wl_bytes.specs.Leb.{IsU32}
use Rattle.wl_bytes.specs.Grammar.{Then, then_at, Items, map_at}
use Rattle.wl_bytes.proofs.Steps.{bind_ok, ok_is}
use Rattle.wl_bytes.proofs.Readings.{IsReading}
use Rattle.wl_bytes.proofs.GrammarLaws.{map_reading, then_reading, cons_text, first_of_items}
use Rattle.wl_bytes.specs.declared.read_error.ReadError.{ReadError}
use Rattle.wl_bytes.specs.declared.read_error.ReadError.TheVariants.{OutOfMemory, Malformed, Unsupported}
use Rattle.wl_bytes.specs.Outcome.{Fails}
use Rattle.wl_bytes.specs.Lists.{NumberFault, number_at, start, list_at}
use Rattle.wl_bytes.specs.Checks.{When, WhenFault, when_at, Any, any_at}
use Rattle.wl_bytes.proofs.ListLaws.{number_reading}
use Rattle.wl_bytes.proofs.CheckLaws.{when_reading, measured_reading}
use Rattle.wl_ops.specs.declared.table.Single.TheVariants.{Number}
use Rattle.wl_ops.specs.declared.table.Immediate.TheVariants.{One}
use Rattle.wl_ops.specs.declared.op.Op.{Op}
use Rattle.wl_ops.specs.declared.op.DataIndexImm.{DataIndexImm}
use Rattle.wl_ops.specs.declared.op.Marked.{Marked}
use Rattle.wl_ops.specs.Table.{shape_of}
use Rattle.wl_ops.specs.Immediates.{single_at, immediate_at, immediates_at}
use Rattle.wl_ops.specs.Operators.{IsHead, HeadFault, head_at, taken_shape, IsBehindTaken, BehindFault, behind_at, IsTaken, op_of, op_at}
use Rattle.wl_ops.specs.Decoding.{AreLocals, is_ended, AreTaken, ops_of, body_of, local_at}
use Rattle.wl_ops.specs.Numbers.{is_segment, IsPlacedNumber, placed_number, placed_number_at, IsSegmentNumber, SegmentNumberFault, segment_number_at, with_number, without_number, IsMarkedBehind, MarkedBehindFault, marked_behind_at, IsMarkedOp, MarkedFault, marked_of, marked_at, op_in, numbers, AreMarked, NumbersIn, NumbersOf}
use Rattle.wl_ops.proofs.OpLaws.{see, head_reading, behind_reading, op_reading}
use Rattle.wl_ops.proofs.Pushing.{fails_bind}
use Rattle.wl_ops.proofs.RestLaws.{AreItems, taken_whole, shortens, one_more}
use Rattle.wl_ops.proofs.DecodeLaws.{locals_reading, dry, stops_so, ends_so, byte_first, as_body, mid_of, ops_taken}

-- ---- reading

placed_number_reading : IsReading IsPlacedNumber NumberFault placed_number_at
unfolding placed_number_at
placed_number_reading = measured_reading IsU32 IsPlacedNumber NumberFault number_at placed_number
    (λ place v text s. (s, refl, refl))
    (λ place n text s. (n.index, s.0, rw (← s.1, ← s.2) refl))
    number_reading

segment_reading : (sub : ℕ) → IsReading (IsSegmentNumber sub) (SegmentNumberFault sub) (segment_number_at sub)
unfolding segment_number_at
segment_reading sub = then_reading IsPlacedNumber (λ _. When IsU32 (eqb sub 8)) NumberFault (λ _. WhenFault NumberFault (eqb sub 8)) placed_number_at (λ _. when_at number_at (eqb sub 8))
    placed_number_reading (λ _. when_reading IsU32 NumberFault number_at number_reading (eqb sub 8))

marked_behind_reading : (b : Bool) (h : ℕ × ℕ) → IsReading (IsMarkedBehind b h) (MarkedBehindFault b h) (marked_behind_at b h)
marked_behind_reading true h = see with_number (IsSegmentNumber h.1) (SegmentNumberFault h.1) (segment_number_at h.1) (segment_reading h.1)
marked_behind_reading false h = see without_number (IsBehindTaken (taken_shape h)) (BehindFault (taken_shape h)) (behind_at (taken_shape h)) (behind_reading (taken_shape h))

pub marked_reading : IsReading IsMarkedOp MarkedFault marked_at
unfolding marked_at
marked_reading = map_reading (Then IsHead (λ h. IsMarkedBehind (is_segment h.0 h.1) h)) IsMarkedOp MarkedFault (then_at head_at (λ h. marked_behind_at (is_segment h.0 h.1) h)) marked_of (λ m. ((m.op.code, m.op.sub), (m.number, m.op.args)))
    (λ place p text s. s) (λ place m text s. (s, refl))
    (then_reading IsHead (λ h. IsMarkedBehind (is_segment h.0 h.1) h) HeadFault (λ h. MarkedBehindFault (is_segment h.0 h.1) h) head_at (λ h. marked_behind_at (is_segment h.0 h.1) h) head_reading (λ h. marked_behind_reading (is_segment h.0 h.1) h))

-- ---- the same operators

abbrev Behind : Type 0
Behind = Result (List ℤ × Cursor) ReadError

abbrev MarkedRead : Type 0
MarkedRead = Result ((Option DataIndexImm × List ℤ) × Cursor) ReadError

abbrev args_in : MarkedRead → Behind
args_in read = read >>= λ p. Ok (p.0.1, p.1)

other_same : (read : Behind) → args_in (read >>= λ p. Ok (without_number p.0, p.1)) ≡ read
other_same (Ok p) = refl
other_same (Err e) = refl

-- the number of a segment and that of a memory
two_same : (c : Cursor) (r : Result (ℕ × Cursor) ReadError) → number_at c ≡ r → immediates_at (One Number ∷ One Number ∷ []) c ≡ args_in (map_at with_number (segment_number_at 8) c)
unfolding immediates_at immediate_at single_at segment_number_at placed_number_at
two_same c (Err e) is = rw is refl
two_same c (Ok p) is = second (number_at p.1) refl
  where
    second : (r : Result (ℕ × Cursor) ReadError) → number_at p.1 ≡ r → immediates_at (One Number ∷ One Number ∷ []) c ≡ args_in (map_at with_number (segment_number_at 8) c)
    second (Err e) then_is = rw (is, then_is) refl
    second (Ok q) then_is = rw (is, then_is) refl

one_same : (c : Cursor) (r : Result (ℕ × Cursor) ReadError) → number_at c ≡ r → immediates_at (One Number ∷ []) c ≡ args_in (map_at with_number (segment_number_at 9) c)
unfolding immediates_at immediate_at single_at segment_number_at placed_number_at
one_same c (Err e) is = rw is refl
one_same c (Ok p) is = rw is refl

init_same : (c : Cursor) → behind_at (taken_shape (0xfc, 8)) c ≡ args_in (marked_behind_at true (0xfc, 8) c)
unfolding taken_shape shape_of
init_same c = two_same c (number_at c) refl

drop_same : (c : Cursor) → behind_at (taken_shape (0xfc, 9)) c ≡ args_in (marked_behind_at true (0xfc, 9) c)
unfolding taken_shape shape_of
drop_same c = one_same c (number_at c) refl

both_true : (a b : Bool) → (a && b) ≡ true → (a ≡ true) × (b ≡ true)
both_true true b e = (refl, e)
both_true false b e = absurd cc

one_true : (a b : Bool) → (a || b) ≡ true → (a ≡ true) ⊎ (b ≡ true)
one_true true b e = inl refl
one_true false b e = inr e

pub segment_is : (code sub : ℕ) → is_segment code sub ≡ true → (code ≡ 0xfc) × ((sub ≡ 8) ⊎ (sub ≡ 9))
segment_is code sub e =
    let b = both_true (eqb code 0xfc) (eqb sub 8 || eqb sub 9) e in
    (eqb-true code 0xfc b.0, elim (one_true (eqb sub 8) (eqb sub 9) b.1) [ inl h ↦ inl (eqb-true sub 8 h) | inr h ↦ inr (eqb-true sub 9 h) ])

abbrev SameBehind : Bool → ℕ → ℕ → Cursor → Type 0
SameBehind b code sub c = behind_at (taken_shape (code, sub)) c ≡ args_in (marked_behind_at b (code, sub) c)

behind_same : (b : Bool) (code sub : ℕ) (c : Cursor) → is_segment code sub ≡ b → SameBehind b code sub c
behind_same false code sub c e = sym (other_same (behind_at (taken_shape (code, sub)) c))
behind_same true code sub c e =
    let which = segment_is code sub e in
    subst (λ (n : ℕ). SameBehind true n sub c) (sym which.0)
    (elim which.1 [
      | inl h ↦ subst (λ (n : ℕ). SameBehind true 0xfc n c) (sym h) (init_same c)
      | inr h ↦ subst (λ (n : ℕ). SameBehind true 0xfc n c) (sym h) (drop_same c)
    ])

abbrev Head : Type 0
Head = (ℕ × ℕ) × Cursor

abbrev as_op : (ℕ × ℕ) → Behind → Result (Op × Cursor) ReadError
as_op h read = read >>= λ q. Ok (op_of (h, q.0), q.1)

args_same : (h : ℕ × ℕ) (read : MarkedRead) → as_op h (args_in read) ≡ map_at op_in (λ (c : Cursor). map_at marked_of (λ (c : Cursor). read >>= λ q. Ok ((h, q.0), q.1)) c) (record { position = 0; rest = [] })
args_same h (Ok p) = refl
args_same h (Err e) = refl

op_so : (h : ℕ × ℕ) (read : Behind) → ◌>>=◌ {A = ((ℕ × ℕ) × List ℤ) × Cursor} (read >>= λ q. Ok ((h, q.0), q.1)) (λ p. Ok (op_of p.0, p.1)) ≡ as_op h read
op_so h (Ok p) = refl
op_so h (Err e) = refl

-- without its number an operator is read as it is
pub same_op : (c : Cursor) → op_at c ≡ map_at op_in marked_at c
unfolding op_at marked_at
same_op c = by_head (head_at c) refl
  where
    by_head : (r : Result Head ReadError) → head_at c ≡ r → op_at c ≡ map_at op_in marked_at c
    by_head (Err e) is = rw is refl
    by_head (Ok p) is =
        rw (is, op_so p.0 (behind_at (taken_shape p.0) p.1), behind_same (is_segment p.0.0 p.0.1) p.0.0 p.0.1 p.1 refl)
        (args_same p.0 (marked_behind_at (is_segment p.0.0 p.0.1) p.0 p.1))

pub to_taken : (m : Marked) (a b : Cursor) → Takes IsMarkedOp m a b → Takes IsTaken m.op a b
to_taken m a b t = op_reading.found a m.op b (same_op a ∙ rw (marked_reading.again a m b t) refl)

pub of_taken : (op : Op) (a b : Cursor) → Takes IsTaken op a b → (m : Marked) × Takes IsMarkedOp m a b × (m.op ≡ op)
of_taken op a b t =
    let e = sym (same_op a) ∙ op_reading.again a op b t in
    let p = bind_ok (marked_at a) (λ (p : Marked × Cursor). Ok (op_in p.0, p.1)) (op, b) e in
    let same = ok_is {E = ReadError} (op_in p.0.0, p.0.1) (op, b) p.2 in
    (p.0.0, subst (λ (c : Cursor). Takes IsMarkedOp p.0.0 a c) (ap (λ (q : Op × Cursor). q.1) same) (marked_reading.found a p.0.0 p.0.1 p.1), ap (λ (q : Op × Cursor). q.0) same)

pub all_to_taken : (ms : List Marked) (a b : Cursor) → Takes (Items IsMarkedOp) ms a b → Takes (Items IsTaken) (map op_in ms) a b
all_to_taken [] a b t = record { text = t.text; spelled = t.spelled; parts = t.parts; moved = t.moved }
all_to_taken (m ∷ ms) a b t =
    let f = first_of_items IsMarkedOp m ms a b t in
    cons_text IsTaken m.op (map op_in ms) a f.0 b (to_taken m a f.0 f.1) (all_to_taken ms f.0 b f.2)

pub all_of_taken : (ops : List Op) (a b : Cursor) → Takes (Items IsTaken) ops a b → (ms : List Marked) × Takes (Items IsMarkedOp) ms a b × (map op_in ms ≡ ops)
all_of_taken [] a b t = ([], record { text = t.text; spelled = t.spelled; parts = t.parts; moved = t.moved }, refl)
all_of_taken (op ∷ ops) a b t =
    let f = first_of_items IsTaken op ops a b t in
    let m = of_taken op a f.0 f.1 in
    let more = all_of_taken ops f.0 b f.2 in
    (m.0 ∷ more.0, cons_text IsMarkedOp m.0 more.0 a f.0 b m.1 more.1, ap (λ (o : Op). o ∷ map op_in more.0) m.2 ∙ ap (λ (os : List Op). op ∷ os) more.2)

pub are_marked : AreItems IsMarkedOp MarkedFault marked_at
are_marked = record {
  each = marked_reading;
  some = λ place m text s. byte_first text s.0 s.1 s.3.0 s.3.1 m.op.code s.2 s.3.2 s.3.3;
}

-- ---- bodies

pub marked_body : (body : List ℕ) (ops : List Op) → AreTaken ops body → (ms : List Marked) × AreMarked ms body × (map op_in ms ≡ ops)
marked_body body ops s =
    let m = all_of_taken ops (mid_of s.0.1 s.0.2) (record { position = length s.0.1 + length s.0.2; rest = [] }) (ops_taken body ops s) in
    let whole : s.0.2 ≡ m.1.text = m.1.parts ∙ append-nil m.1.text in
    (m.0, (s.0.0, s.0.1, s.0.2, s.0.3, s.0.4, subst (λ (text : List ℕ). Items IsMarkedOp (length s.0.1) m.0 text) (sym whole) m.1.spelled, rw m.2 s.0.6), m.2)

pub taken_body : (body : List ℕ) (ms : List Marked) → AreMarked ms body → AreTaken (map op_in ms) body
taken_body body ms s =
    as_body body (map op_in ms) (mid_of s.1 s.2) (record { position = length s.1 + length s.2; rest = [] })
    (record { text = s.1; spelled = (s.0, s.4); parts = s.3; moved = omega arith })
    (all_to_taken ms (mid_of s.1 s.2) (record { position = length s.1 + length s.2; rest = [] }) (taken_whole IsMarkedOp ms (mid_of s.1 s.2) s.5)) refl s.6

-- what a reader took of a body
pub as_marked : (body : List ℕ) (ms : List Marked) (mid to : Cursor) → Takes (Any AreLocals) tt (start body) mid → Takes (Items IsMarkedOp) ms mid to → to.rest ≡ [] → is_ended (map op_in ms) ≡ true → AreMarked ms body
as_marked body ms mid to t u none e =
    let place : mid.position ≡ length t.text = omega (arith, t.moved) in
    let back : mid.rest ≡ u.text = u.parts ∙ ap (λ (r : List ℕ). u.text ++ r) none ∙ append-nil u.text in
    (t.spelled.0, t.text, u.text, t.parts ∙ ap (λ (r : List ℕ). t.text ++ r) back, t.spelled.1, subst (λ (n : ℕ). Items IsMarkedOp n ms u.text) place u.spelled, e)

-- ---- as the code reads

-- what comes after some operators is at fault
fails_so : (mid : Cursor) (e : ReadError) → Fails e (marked_at mid) → Fails e (op_at mid)
fails_so mid OutOfMemory h = tt
fails_so mid (Malformed why) h = same_op mid ∙ rw h refl
fails_so mid (Unsupported form) h = same_op mid ∙ rw h refl

pub numbers_stop : (ms : List Marked) (c mid : Cursor) (e : ReadError) → Takes (Items IsMarkedOp) ms c mid → eqb (length mid.rest) 0 ≡ false → Fails e (marked_at mid) → Fails e (ops_of c)
numbers_stop ms c mid e t some h = stops_so (map op_in ms) c mid e (all_to_taken ms c mid t) some (fails_so mid e h)

-- all bytes are read, and the last operator isn't `end`
pub numbers_end : (ms : List Marked) (c mid : Cursor) (b : Bool) → Takes (Items IsMarkedOp) ms c mid → eqb (length mid.rest) 0 ≡ true → is_ended (map op_in ms) ≡ b → ops_of c ≡ cond b (Ok (map op_in ms)) (Err dry)
numbers_end ms c mid b t none e = ends_so (map op_in ms) c mid b (all_to_taken ms c mid t) none e

pub ended_more : (ms : List Marked) (m : Marked) → is_ended (map op_in (ms ++ m ∷ [])) ≡ eqb m.op.code 0x0b
ended_more [] m = refl
ended_more (n ∷ []) m = refl
ended_more (n ∷ next ∷ ms) m = ended_more (next ∷ ms) m

pub numbers_more : (ms : List Marked) (m : Marked) → numbers (ms ++ m ∷ []) ≡ numbers ms ++ option_to_list m.number
numbers_more ms m = filter_map-append (λ m. m.number) ms (m ∷ []) ∙ ap (λ (ns : List DataIndexImm). numbers ms ++ ns) (single m.number)
  where
    single : (o : Option DataIndexImm) → cons_option o [] ≡ option_to_list o
    single None = refl
    single (Some n) = refl

-- one more operator is read
pub read_more : (ms : List Marked) (m : Marked) (ns ks : List DataIndexImm) (c a b : Cursor) → Takes (Items IsMarkedOp) ms c a → marked_at a ≡ Ok (m, b) → ns ≡ numbers ms → ks ≡ ns ++ option_to_list m.number
    → (os : List Marked) × Takes (Items IsMarkedOp) os c b × (is_ended (map op_in os) ≡ eqb m.op.code 0x0b) × (ks ≡ numbers os)
read_more ms m ns ks c a b t read old new =
    (ms ++ m ∷ [], one_more IsMarkedOp ms m c a b t (marked_reading.found a m b read), ended_more ms m, new ∙ ap (λ (l : List DataIndexImm). l ++ option_to_list m.number) old ∙ sym (numbers_more ms m))

-- and fewer bytes are left
pub read_less : (m : Marked) (a b : Cursor) → marked_at a ≡ Ok (m, b) → length b.rest < length a.rest
read_less m a b read = shortens IsMarkedOp MarkedFault marked_at are_marked m a b (marked_reading.found a m b read)

-- after the local declarations a body is read as its operators are
body_is : (body : List ℕ) (mid : Cursor) → Takes (Any AreLocals) tt (start body) mid → body_of body ≡ ops_of mid
unfolding body_of
body_is body mid t = rw (locals_reading.again (start body) tt mid t) refl

pub numbers_whole : {X : Type 0} (view : X → List DataIndexImm) (body : List ℕ) (mid : Cursor) (r : Result X ReadError) → Takes (Any AreLocals) tt (start body) mid → NumbersIn view mid r → NumbersOf view body r
numbers_whole view body mid (Ok v) t n = (n.0, as_marked body n.0 mid n.1 t n.2 n.3 n.4, n.5)
numbers_whole view body mid (Err e) t n = rw (body_is body mid t) n

pub locals_fail : (body : List ℕ) (e : ReadError) → Fails e (any_at (list_at local_at) (start body)) → Fails e (body_of body)
unfolding body_of
locals_fail body e h = fails_bind e (any_at (list_at local_at) (start body)) (λ (p : Unit {0} × Cursor). ops_of p.1) h
