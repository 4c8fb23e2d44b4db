-- An operator with the number of a segment, and the same with another number.
use Rattle.std.proofs.Common.{◌≡◌, ℕ, ℤ, ◌+◌, ◌<◌, ◌^◌, Bool, true, false, eqb, List, [], ◌++◌, length, Option, Some, None, refl, sym, ap, subst, ◌∙◌}
use Rattle.std.proofs.lemmas.List.{append-nil, append_cancel_right}
use Rattle.wl_bytes.specs.Leb.{IsU32, IsShortest}
use Rattle.wl_bytes.proofs.ShortestLaws.{written_u32}
use Rattle.wl_bytes.specs.Checks.{When}
use Rattle.wl_ops.specs.declared.op.Op.{Op}
use Rattle.wl_ops.specs.declared.op.DataIndexImm.{DataIndexImm}
use Rattle.wl_ops.specs.declared.op.Marked.{Marked}
use Rattle.wl_ops.specs.Operators.{IsHead, IsTaken}
use Rattle.wl_ops.specs.Numbers.{is_segment, IsPlacedNumber, IsSegmentNumber, segment_args, IsMarkedBehind, IsMarkedOp}
use Rattle.wl_ops.specs.Rewriting.{renumbered}
use Rattle.wl_ops.proofs.NumberLaws.{to_taken}
use Rattle.wl_ops.proofs.PlaceLaws.{when_there, head_there}

-- ---- one operator

-- a written number spells itself
written : (place n : ℕ) (text : List ℕ) → n < 2 ^ 32 → IsShortest n text → IsU32 place n text
written place n text lt s =
    let t = written_u32 n text lt s place [] in
    let same : text ≡ t.text = append_cancel_right text t.text [] t.parts in
    subst (λ (x : List ℕ). IsU32 place n x) (sym same) t.spelled

-- what an operator spells, taken by itself
pub alone : (m : Marked) (place : ℕ) (text : List ℕ) → IsMarkedOp place m text → IsTaken place m.op text
alone m place text s =
    let t = to_taken m (record { position = place; rest = text }) (record { position = place + length text; rest = [] }) (record { text = text; spelled = s; parts = sym (append-nil text); moved = refl }) in
    let same : text ≡ t.text = append_cancel_right text t.text [] (append-nil text ∙ t.parts) in
    subst (λ (x : List ℕ). IsTaken place m.op x) (sym same) t.spelled

-- an operator with a number: what stands before it, the number, and what follows it
pub record HasNumber (place : ℕ) (m : Marked) (text : List ℕ) (n : DataIndexImm) : Type 0 where
  pub head : List ℕ
  pub digits : List ℕ
  pub back : List ℕ
  pub memory : Option ℕ
  pub parts : text ≡ head ++ (digits ++ back)
  pub first : IsHead place (m.op.code, m.op.sub) head
  pub number : IsPlacedNumber (place + length head) n digits
  pub others : When IsU32 (eqb m.op.sub 8) (place + length head + length digits) memory back
  pub segment : is_segment m.op.code m.op.sub ≡ true
  pub args : m.op.args ≡ segment_args (n, memory)

pub none_is : (b : Bool) (m : Marked) (place : ℕ) (text : List ℕ) → is_segment m.op.code m.op.sub ≡ b → m.number ≡ None → IsMarkedOp place m text → is_segment m.op.code m.op.sub ≡ false
none_is false m place text e none s = e
none_is true m place text e none s =
    let behind : IsMarkedBehind true (m.op.code, m.op.sub) (place + length s.0) (m.number, m.op.args) s.1 =
    subst (λ (b : Bool). IsMarkedBehind b (m.op.code, m.op.sub) (place + length s.0) (m.number, m.op.args) s.1) e s.4 in
    absurd (let some : Some behind.0.0 ≡ m.number = ap (λ (p : Option DataIndexImm × List ℤ). p.0) behind.2 in cc)

pub some_is : (b : Bool) (m : Marked) (place : ℕ) (text : List ℕ) (n : DataIndexImm) → is_segment m.op.code m.op.sub ≡ b → m.number ≡ Some n → IsMarkedOp place m text → HasNumber place m text n
some_is false m place text n e some s =
    let behind : IsMarkedBehind false (m.op.code, m.op.sub) (place + length s.0) (m.number, m.op.args) s.1 =
    subst (λ (b : Bool). IsMarkedBehind b (m.op.code, m.op.sub) (place + length s.0) (m.number, m.op.args) s.1) e s.4 in
    absurd (let none : None ≡ m.number = ap (λ (p : Option DataIndexImm × List ℤ). p.0) behind.2 in cc)
some_is true m place text n e some s =
    let behind : IsMarkedBehind true (m.op.code, m.op.sub) (place + length s.0) (m.number, m.op.args) s.1 =
    subst (λ (b : Bool). IsMarkedBehind b (m.op.code, m.op.sub) (place + length s.0) (m.number, m.op.args) s.1) e s.4 in
    let same : behind.0.0 ≡ n = some_same behind.0.0 n (ap (λ (p : Option DataIndexImm × List ℤ). p.0) behind.2 ∙ some) in
    record {
      head = s.0;
      digits = behind.1.0;
      back = behind.1.1;
      memory = behind.0.1;
      parts = s.2 ∙ ap (λ (x : List ℕ). s.0 ++ x) behind.1.2;
      first = s.3;
      number = subst (λ (k : DataIndexImm). IsPlacedNumber (place + length s.0) k behind.1.0) same behind.1.3;
      others = behind.1.4;
      segment = e;
      args = sym (ap (λ (p : Option DataIndexImm × List ℤ). p.1) behind.2) ∙ ap (λ (k : DataIndexImm). segment_args (k, behind.0.1)) same;
    }
  where
    some_same : (a b : DataIndexImm) → Some a ≡ Some b → a ≡ b
    some_same a b e = cc

-- the same operator with another number
pub marked_anew : (m : Marked) (place there : ℕ) (text : List ℕ) (n : DataIndexImm) (k : ℕ) (short : List ℕ) → (h : HasNumber place m text n) → k < 2 ^ 32 → IsShortest k short
    → IsTaken there (record { code = m.op.code; sub = m.op.sub; args = segment_args (record { offset = there + length h.head; len = length short; index = k }, h.memory) }) (h.head ++ (short ++ h.back))
marked_anew m place there text n k short h lt s =
    let number : DataIndexImm = record { offset = there + length h.head; len = length short; index = k } in
    let op : Op = record { code = m.op.code; sub = m.op.sub; args = segment_args (number, h.memory) } in
    let spelled : IsSegmentNumber m.op.sub (there + length h.head) (number, h.memory) (short ++ h.back) =
    (short, h.back, refl, (written (there + length h.head) k short lt s, refl, refl), when_there (eqb m.op.sub 8) (place + length h.head + length h.digits) (there + length h.head + length short) h.memory h.back h.others) in
    let behind : IsMarkedBehind true (m.op.code, m.op.sub) (there + length h.head) (Some number, segment_args (number, h.memory)) (short ++ h.back) = ((number, h.memory), spelled, refl) in
    let behind' : IsMarkedBehind (is_segment m.op.code m.op.sub) (m.op.code, m.op.sub) (there + length h.head) (Some number, segment_args (number, h.memory)) (short ++ h.back) =
    subst (λ (b : Bool). IsMarkedBehind b (m.op.code, m.op.sub) (there + length h.head) (Some number, segment_args (number, h.memory)) (short ++ h.back)) (sym h.segment) behind in
    alone (record { op = op; number = Some number }) there (h.head ++ (short ++ h.back)) (h.head, short ++ h.back, refl, head_there place there (m.op.code, m.op.sub) h.head h.first, behind')

-- that is its renumbering
pub renumbered_is : (new : ℕ → Option ℕ) (m : Marked) (place : ℕ) (text : List ℕ) (n : DataIndexImm) (k offset len : ℕ) → (h : HasNumber place m text n) → new n.index ≡ Some k
    → record { code = m.op.code; sub = m.op.sub; args = segment_args (record { offset = offset; len = len; index = k }, h.memory) } ≡ renumbered new m.op
renumbered_is new m place text n k offset len h is = rw (h.segment, h.args, is) refl
