-- A body spells one list of operators, those on element segments among them.
use Rattle.std.proofs.Common.{◌≡◌, ◌≢◌, ℕ, ℤ, ◌+◌, List, [], ◌∷◌, ◌++◌, length, Option, Some, None, Result, refl, sym, ap, subst, ◌∙◌, arith, append_assoc}
use Rattle.std.proofs.lemmas.List.{append-nil}
use Rattle.wl_bytes.specs.Cursor.{Cursor}
use Rattle.wl_bytes.specs.Parse.{Takes}
use Rattle.wl_bytes.specs.Grammar.{Then, ThenFault, then_at, Items, map_at}
use Rattle.wl_bytes.proofs.Steps.{ok_is}
use Rattle.wl_bytes.proofs.Readings.{IsReading}
use Rattle.wl_bytes.proofs.GrammarLaws.{then_reading, map_reading, first_of_items, nothing_taken}
use Rattle.wl_bytes.specs.declared.read_error.ReadError.{ReadError}
use Rattle.wl_bytes.specs.Lists.{start}
use Rattle.wl_ops.specs.declared.op.Op.{Op}
use Rattle.wl_ops.specs.declared.table.Shape.{Shape}
use Rattle.wl_ops.specs.Table.{shape_of}
use Rattle.wl_ops.specs.Operators.{IsHead, HeadFault, head_at, IsBehind, IsOp, shape_or, IsBehindTaken, BehindFault, behind_at, op_of}
use Rattle.wl_bytes.specs.Checks.{Any}
use Rattle.wl_ops.specs.Decoding.{AreLocals, AreOps}
use Rattle.wl_ops.proofs.OpLaws.{head_reading, behind_reading}
use Rattle.wl_ops.proofs.DecodeLaws.{byte_first, locals_reading, mid_of}

-- ---- operators of the table

abbrev shape_at : ℕ × ℕ → Result Shape ReadError
shape_at h = shape_or h.0 (shape_of h.0 h.1)

abbrev table_fault : ReadError → Cursor → Type 0
table_fault = ThenFault IsHead HeadFault (λ h. BehindFault (shape_at h))

abbrev table_op_at : Cursor → Result (Op × Cursor) ReadError
table_op_at c = map_at op_of (then_at head_at (λ h. behind_at (shape_at h))) c

in_table : (code : ℕ) (o : Option Shape) (place : ℕ) (zs : List ℤ) (text : List ℕ) → IsBehindTaken (shape_or code o) place zs text → IsBehind o place zs text
in_table code None place zs text s = s
in_table code (Some shape) place zs text s = s

of_table : (code : ℕ) (o : Option Shape) (place : ℕ) (zs : List ℤ) (text : List ℕ) → IsBehind o place zs text → IsBehindTaken (shape_or code o) place zs text
of_table code None place zs text s = s
of_table code (Some shape) place zs text s = s

table_reading : IsReading IsOp table_fault table_op_at
table_reading = map_reading (Then IsHead (λ h. IsBehindTaken (shape_at h))) IsOp table_fault (then_at head_at (λ h. behind_at (shape_at h))) op_of (λ op. ((op.code, op.sub), op.args))
    (λ place p text s. (s.0, s.1, s.2, s.3, in_table p.0.0 (shape_of p.0.0 p.0.1) (place + length s.0) p.1 s.1 s.4))
    (λ place op text s. ((s.0, s.1, s.2, s.3, of_table op.code (shape_of op.code op.sub) (place + length s.0) op.args s.1 s.4), refl))
    (then_reading IsHead (λ h. IsBehindTaken (shape_at h)) HeadFault (λ h. BehindFault (shape_at h)) head_at (λ h. behind_at (shape_at h)) head_reading (λ h. behind_reading (shape_at h)))

-- ---- one list

-- what is read is one item, up to one place
one_item : {X E : Type 0} {spells : ℕ → X → List ℕ → Type 0} {faults : E → Cursor → Type 0} {read : Cursor → Result (X × Cursor) E}
    → IsReading spells faults read → (c : Cursor) (x y : X) (to other : Cursor) → Takes spells x c to → Takes spells y c other → (x ≡ y) × (to ≡ other)
one_item {X} {E} law c x y to other t u =
    let same = ok_is {E = E} (x, to) (y, other) (sym (law.again c x to t) ∙ law.again c y other u) in
    (ap (λ (p : X × Cursor). p.0) same, ap (λ (p : X × Cursor). p.1) same)

-- an operator has a byte
some_byte : (op : Op) (a b : Cursor) → Takes IsOp op a b → a.rest ≢ []
some_byte op a b t none =
    let s = t.spelled in
    let all : a.rest ≡ s.0 ++ (s.1 ++ b.rest) = t.parts ∙ rw (s.2, append_assoc) refl in
    byte_first a.rest s.0 (s.1 ++ b.rest) s.3.0 s.3.1 op.code all s.3.2 s.3.3 none

one_list : (xs ys : List Op) (a c d : Cursor) → Takes (Items IsOp) xs a c → Takes (Items IsOp) ys a d → c.rest ≡ [] → d.rest ≡ [] → xs ≡ ys
one_list [] [] a c d t u e f = refl
one_list [] (y ∷ ys) a c d t u e f =
    let none : a.rest ≡ [] = ap (λ (x : Cursor). x.rest) (nothing_taken IsOp a c t) ∙ e in
    let first = first_of_items IsOp y ys a d u in
    absurd (some_byte y a first.0 first.1 none)
one_list (x ∷ xs) [] a c d t u e f =
    let none : a.rest ≡ [] = ap (λ (x : Cursor). x.rest) (nothing_taken IsOp a d u) ∙ f in
    let first = first_of_items IsOp x xs a c t in
    absurd (some_byte x a first.0 first.1 none)
one_list (x ∷ xs) (y ∷ ys) a c d t u e f =
    let p = first_of_items IsOp x xs a c t in
    let q = first_of_items IsOp y ys a d u in
    let same = one_item table_reading a x y p.0 q.0 p.1 q.1 in
    let rest = one_list xs ys q.0 c d (subst (λ (m : Cursor). Takes (Items IsOp) xs m c) same.1 p.2) q.2 e f in
    cc (same.0, rest)

-- ---- bodies

abbrev at_end : List ℕ → List ℕ → Cursor
at_end front back = record { position = length front + length back; rest = [] }

abbrev locals_before : (body : List ℕ) (ops : List Op) (s : AreOps ops body) → Takes (Any AreLocals) tt (start body) (mid_of s.1 s.2)
locals_before body ops s = record { text = s.1; spelled = (s.0, s.4); parts = s.3; moved = omega arith }

abbrev behind_locals : (body : List ℕ) (ops : List Op) (s : AreOps ops body) → Takes (Items IsOp) ops (mid_of s.1 s.2) (at_end s.1 s.2)
behind_locals body ops s = record { text = s.2; spelled = s.5; parts = sym (append-nil s.2); moved = refl }

pub one_decoding : (ops other : List Op) (body : List ℕ) → AreOps ops body → AreOps other body → ops ≡ other
one_decoding ops other body s u =
    let same = one_item locals_reading (start body) tt tt (mid_of s.1 s.2) (mid_of u.1 u.2) (locals_before body ops s) (locals_before body other u) in
    one_list ops other (mid_of u.1 u.2) (at_end s.1 s.2) (at_end u.1 u.2) (subst (λ (m : Cursor). Takes (Items IsOp) ops m (at_end s.1 s.2)) same.1 (behind_locals body ops s))
    (behind_locals body other u) refl refl
