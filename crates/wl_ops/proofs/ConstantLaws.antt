-- The operators of constant expressions are operators of the table.
use Rattle.std.proofs.Common.{◌≡◌, ◌↔◌, ℕ, zero, suc, ◌+◌, ◌==◌, ◌||◌, pos, Bool, true, false, List, [], ◌∷◌, ◌++◌, length, map, replicate, Some, None, refl, sym, ap, subst, ◌∙◌, arith, inl, inr, append-nil, append_assoc, IsTrue}
use Rattle.std.specs.List.{list_any}
use borrow.Author.Tests.{eqb-true}
use Rattle.wl_bytes.specs.Cursor.{Cursor}
use Rattle.wl_bytes.specs.Parse.{Takes}
use Rattle.wl_bytes.specs.Leb.{IsU32}
use Rattle.wl_bytes.specs.Grammar.{Items}
use Rattle.wl_bytes.specs.Lists.{start}
use Rattle.wl_bytes.specs.declared.read_error.ReadError.{ReadError}
use Rattle.wl_bytes.proofs.GrammarLaws.{at}
use Rattle.wl_bytes.proofs.Steps.{ok_is}
use Rattle.wl_module.specs.declared.constants.ConstOperator.{ConstOperator}
use Rattle.wl_module.specs.declared.constants.ConstOperator.TheVariants.{I32Const, I64Const, F32Const, F64Const, GlobalGet, RefNull, RefFunc, I32Add, I32Sub, I32Mul, I64Add, I64Sub, I64Mul, Vector}
use Rattle.wl_module.specs.declared.types.ValType.{ValType}
use Rattle.wl_module.specs.declared.types.ValType.TheVariants.{I32, I64, F32, F64, V128, FuncRef, ExternRef}
use Rattle.wl_module.specs.Types.{value_type_code, is_reference as is_reference_value}
use Rattle.wl_module.specs.Constants.{operator_code, IsOperator}
use Rattle.wl_ops.specs.declared.op.Op.{Op}
use Rattle.wl_ops.specs.declared.table.Immediate.TheVariants.{One}
use Rattle.wl_ops.specs.declared.table.Single.{Single}
use Rattle.wl_ops.specs.declared.table.Single.TheVariants.{Number, Signed32, Signed64, Byte, ReferenceType}
use Rattle.wl_ops.specs.declared.table.Shape.{Shape}
use Rattle.wl_ops.specs.declared.table.Shape.TheVariants.{Nothing, Index, Int32, Int64, Float32, Float64, Null}
use Rattle.wl_ops.specs.Table.{immediates, is_prefix, is_element, shape_of}
use Rattle.wl_ops.specs.Immediates.{is_reference_type, IsSingle, AreImmediates}
use Rattle.wl_ops.specs.Operators.{IsSub, IsBehind, IsTaken, OpFault, op_at}
use Rattle.wl_ops.specs.Expressions.{is_reference, HasReference, takes_index}
use Rattle.wl_ops.specs.Expressions.HasReference.{here, behind}
use Rattle.wl_ops.proofs.OpLaws.{op_reading}
use Rattle.wl_ops.proofs.RestLaws.{shortens}
use Rattle.wl_ops.proofs.DecodeLaws.{are_ops}
use Rattle.wl_ops.proofs.ReferenceLaws.{reference_reads}

-- ---- immediates

one_immediate : (s : Single) (place : ℕ) (z : _) (text : List ℕ) → IsSingle s place z text → AreImmediates (One s ∷ []) place (z ∷ []) text
one_immediate s place z text is = ((z ∷ [], []), (text, [], sym (append-nil text), (z, is, refl), (tt, refl, refl)), refl)

byte_immediates : (n : ℕ) (place : ℕ) (bytes : List ℕ) → length bytes ≡ n → AreImmediates (replicate n (One Byte)) place (map (λ b. pos b) bytes) bytes
byte_immediates zero place [] e = (tt, refl, refl)
byte_immediates zero place (b ∷ bytes) e = absurd (omega (arith, e))
byte_immediates (suc n) place [] e = absurd (omega (arith, e))
byte_immediates (suc n) place (b ∷ bytes) e =
    ((pos b ∷ [], map (λ b. pos b) bytes), (b ∷ [], bytes, refl, (pos b, (b, refl, refl), refl), byte_immediates n (place + 1) bytes (omega (arith, e))), refl)

reference_code : (t : ValType) → is_reference_value t ≡ true → is_reference_type (value_type_code t) ≡ true
reference_code FuncRef e = refl
reference_code ExternRef e = refl
reference_code I32 e = absurd cc
reference_code I64 e = absurd cc
reference_code F32 e = absurd cc
reference_code F64 e = absurd cc
reference_code V128 e = absurd cc

-- ---- operators

-- an operator of one byte, which isn't a prefix, and what follows it
plain_operator : (other code : ℕ) (shape : Shape) (zs : _) (front back text : List ℕ) → is_prefix code ≡ false → is_element code 0 ≡ false → shape_of code 0 ≡ Some shape
    → text ≡ front ++ back → front ≡ code ∷ [] → AreImmediates (immediates shape) (other + length front) zs back
    → IsTaken other (record { code = code; sub = 0; args = zs }) text
plain_operator other code shape zs front back text plain other_kind has parts byte are =
    let sub : IsSub code (other + length front) 0 [] = rw plain (None, (refl, refl), refl) in
    let there : IsBehind (shape_of code 0) (other + length front) zs back = rw has are in
    ((front, back, parts, (front, [], sym (append-nil front), byte, sub), there), rw other_kind refl)

abbrev Stands : ℕ → ConstOperator → List ℕ → Type 0
Stands other o text = (op : Op) × IsTaken other op text × (op.code ≡ operator_code o)

-- without immediates
bare_operator : (place other : ℕ) (o : ConstOperator) (front back text : List ℕ) → is_prefix (operator_code o) ≡ false → is_element (operator_code o) 0 ≡ false → shape_of (operator_code o) 0 ≡ Some Nothing
    → text ≡ front ++ back → front ≡ operator_code o ∷ [] → back ≡ [] → Stands other o text
bare_operator place other o front back text plain other_kind has parts byte none = (_, plain_operator other (operator_code o) Nothing [] front back text plain other_kind has parts byte (tt, none, refl), refl)

-- with one
single_operator : (other : ℕ) (o : ConstOperator) (shape : Shape) (s : Single) (z : _) (front back text : List ℕ) → is_prefix (operator_code o) ≡ false → is_element (operator_code o) 0 ≡ false → shape_of (operator_code o) 0 ≡ Some shape
    → immediates shape ≡ One s ∷ [] → text ≡ front ++ back → front ≡ operator_code o ∷ [] → IsSingle s (other + length front) z back → Stands other o text
single_operator other o shape s z front back text plain other_kind has shaped parts byte is =
    (_, plain_operator other (operator_code o) shape (z ∷ []) front back text plain other_kind has parts byte (rw shaped (one_immediate s (other + length front) z back is)), refl)

-- with so many bytes
bytes_operator : (other : ℕ) (o : ConstOperator) (shape : Shape) (n : ℕ) (bytes front back text : List ℕ) → is_prefix (operator_code o) ≡ false → is_element (operator_code o) 0 ≡ false → shape_of (operator_code o) 0 ≡ Some shape
    → immediates shape ≡ replicate n (One Byte) → text ≡ front ++ back → front ≡ operator_code o ∷ [] → back ≡ bytes → length bytes ≡ n → Stands other o text
bytes_operator other o shape n bytes front back text plain other_kind has shaped parts byte same len =
    let are : AreImmediates (immediates shape) (other + length front) (map (λ b. pos b) back) back = rw shaped (byte_immediates n (other + length front) back (ap length same ∙ len)) in
    (_, plain_operator other (operator_code o) shape (map (λ b. pos b) back) front back text plain other_kind has parts byte are, refl)

-- `v128.const`: the number after the prefix, and sixteen bytes
vector_operator : (place other : ℕ) (text : List ℕ) → IsOperator place Vector text → Stands other Vector text
unfolding shape_of
vector_operator place other text s =
    let v = s.4.1 in
    let n : s.4.0.0 ≡ 0x0c = eqb-true s.4.0.0 0x0c v.3.1 in
    let head : List ℕ = s.0 ++ v.0 in
    let u = v.3.0 in
    let parts : text ≡ head ++ v.1 = s.2 ∙ ap (λ (x : List ℕ). s.0 ++ x) v.2 ∙ sym (append_assoc s.0 v.0 v.1) in
    let same : length v.1 ≡ 16 = ap length v.4.0 ∙ v.4.1 in
    let number : IsU32 (other + length s.0) 0x0c v.0 = record { leb = u.leb; value = sym n ∙ u.value } in (
      record { code = 0xfd; sub = 0x0c; args = map (λ b. pos b) v.1 },
      ((head, v.1, parts, (s.0, v.0, refl, s.3, (Some 0x0c, number, refl)), byte_immediates 16 (other + length head) v.1 same), refl),
      refl,
    )

pub constant_operator : (place other : ℕ) (o : ConstOperator) (text : List ℕ) → IsOperator place o text → Stands other o text
unfolding shape_of
constant_operator place other I32Const text s = let i = s.4 in single_operator other I32Const Int32 Signed32 i.0 s.0 s.1 text refl refl refl refl s.2 s.3 (record { leb = i.1.leb; value = i.1.value })
constant_operator place other I64Const text s = let i = s.4 in single_operator other I64Const Int64 Signed64 i.0 s.0 s.1 text refl refl refl refl s.2 s.3 (record { leb = i.1.leb; value = i.1.value })
constant_operator place other F32Const text s = bytes_operator other F32Const Float32 4 s.4.0 s.0 s.1 text refl refl refl refl s.2 s.3 s.4.1.0 s.4.1.1
constant_operator place other F64Const text s = bytes_operator other F64Const Float64 8 s.4.0 s.0 s.1 text refl refl refl refl s.2 s.3 s.4.1.0 s.4.1.1
constant_operator place other GlobalGet text s = let i = s.4 in single_operator other GlobalGet Index Number (pos i.0) s.0 s.1 text refl refl refl refl s.2 s.3 (i.0, record { leb = i.1.leb; value = i.1.value }, refl)
constant_operator place other RefNull text s =
    let i = s.4 in
    single_operator other RefNull Null ReferenceType (pos (value_type_code i.0)) s.0 s.1 text refl refl refl refl s.2 s.3 (value_type_code i.0, (i.1.0, reference_code i.0 i.1.1), refl)
constant_operator place other RefFunc text s = let i = s.4 in single_operator other RefFunc Index Number (pos i.0) s.0 s.1 text refl refl refl refl s.2 s.3 (i.0, record { leb = i.1.leb; value = i.1.value }, refl)
constant_operator place other I32Add text s = bare_operator place other I32Add s.0 s.1 text refl refl refl s.2 s.3 s.4
constant_operator place other I32Sub text s = bare_operator place other I32Sub s.0 s.1 text refl refl refl s.2 s.3 s.4
constant_operator place other I32Mul text s = bare_operator place other I32Mul s.0 s.1 text refl refl refl s.2 s.3 s.4
constant_operator place other I64Add text s = bare_operator place other I64Add s.0 s.1 text refl refl refl s.2 s.3 s.4
constant_operator place other I64Sub text s = bare_operator place other I64Sub s.0 s.1 text refl refl refl s.2 s.3 s.4
constant_operator place other I64Mul text s = bare_operator place other I64Mul s.0 s.1 text refl refl refl s.2 s.3 s.4
constant_operator place other Vector text s = vector_operator place other text s

-- ---- references

-- one takes an index where its first byte says so
same_index : (o : ConstOperator) → (operator_code o == 0x23 || operator_code o == 0xd2) ≡ takes_index o
same_index I32Const = refl
same_index I64Const = refl
same_index F32Const = refl
same_index F64Const = refl
same_index GlobalGet = refl
same_index RefNull = refl
same_index RefFunc = refl
same_index I32Add = refl
same_index I32Sub = refl
same_index I32Mul = refl
same_index I64Add = refl
same_index I64Sub = refl
same_index I64Mul = refl
same_index Vector = refl

-- the next operator, and what is left
first_taken : (place other : ℕ) (o : ConstOperator) (os : List ConstOperator) (body : List ℕ) (s : Items IsOperator place (o ∷ os) body)
    → (op : Op) × Takes IsTaken op (at other body) (at (other + length s.0) s.1) × (is_reference op ≡ takes_index o)
first_taken place other o os body s =
    let t = constant_operator place other o s.0 s.3 in
    (t.0, record { text = s.0; spelled = t.1; parts = s.2; moved = refl }, ap (λ (code : ℕ). code == 0x23 || code == 0xd2) t.2 ∙ same_index o)

-- it is the next operator, or follows it
there_by : (a b : Cursor) (op : Op) (is more : Bool) → Takes IsTaken op a b → is_reference op ≡ is → (more ≡ true → HasReference b) → (is || more) ≡ true → HasReference a
there_by a b op true more t e rest on = here op a b t e
there_by a b op false more t e rest on = behind op a b t (rest on)

references_there : (place other : ℕ) (os : List ConstOperator) (body : List ℕ) → Items IsOperator place os body → list_any takes_index os ≡ true → HasReference (at other body)
references_there place other [] body s e = absurd cc
references_there place other (o ∷ os) body s e =
    let t = first_taken place other o os body s in
    there_by (at other body) (at (other + length s.0) s.1) t.0 (takes_index o) (list_any takes_index os) t.1 t.2 (references_there (place + length s.0) (other + length s.0) os s.1 s.4) e

or_true : (b : Bool) → (b || true) ≡ true
or_true true = refl
or_true false = refl

-- bytes that are no operator have none
none_stands : (a : Cursor) → a.rest ≡ [] → HasReference a → ⊥
none_stands a none h =
    let r = reference_reads a h in
    let less = shortens IsTaken OpFault op_at are_ops r.0 a r.1 (op_reading.found a r.0 r.1 r.2) in
    absurd (omega (arith, less, ap length none))

told_by : (a b : Cursor) (op : Op) (is more : Bool) → Takes IsTaken op a b → is_reference op ≡ is → (HasReference b → more ≡ true) → HasReference a → (is || more) ≡ true
told_by a b op is more t e rest h =
    let r = reference_reads a h in
    let same : (op, b) ≡ (r.0, r.1) = ok_is {E = ReadError} (op, b) (r.0, r.1) (sym (op_reading.again a op b t) ∙ r.2) in
    let alike : is_reference op ≡ is_reference r.0 = ap (λ (p : Op × Cursor). is_reference p.0) same in
    elim r.3 [
      | inl on ↦ let yes : is ≡ true = sym e ∙ (alike ∙ on) in rw yes refl
      | inr next ↦ let more_is : more ≡ true = rest (subst (λ (p : Op × Cursor). HasReference p.1) (sym same) next) in rw (more_is, or_true is) refl
    ]

references_told : (place other : ℕ) (os : List ConstOperator) (body : List ℕ) → Items IsOperator place os body → HasReference (at other body) → list_any takes_index os ≡ true
references_told place other [] body s h = absurd (none_stands (at other body) s h)
references_told place other (o ∷ os) body s h =
    let t = first_taken place other o os body s in
    told_by (at other body) (at (other + length s.0) s.1) t.0 (takes_index o) (list_any takes_index os) t.1 t.2 (references_told (place + length s.0) (other + length s.0) os s.1 s.4) h

pub references : (place : ℕ) (os : List ConstOperator) (body : List ℕ) → Items IsOperator place os body → (HasReference (start body) ↔ IsTrue (list_any takes_index os))
references place os body s = (references_told place 0 os body s, references_there place 0 os body s)
