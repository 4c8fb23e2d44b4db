-- Operators and their immediates are read as they are spelled.
use Rattle.std.proofs.Common.{◌≡◌, ℕ, ℤ, pos, ◌+◌, Bool, true, false, not, List, [], ◌∷◌, length, Option, Some, None, Result, Ok, Err, refl, sym, ap, subst}
use Rattle.wl_bytes.specs.Cursor.{Cursor}
use Rattle.wl_bytes.specs.Leb.{form_of, s33_form, IsU32, IsSigned, SignedFault}
use Rattle.wl_bytes.specs.Items.{IsByte}
use Rattle.wl_bytes.specs.Reading as bytes
use Rattle.wl_bytes.specs.Grammar.{Then, ThenFault, then_at, Times, TimesFault, times_at, map_at}
use Rattle.wl_bytes.specs.declared.leb.LebForm.{LebForm}
use Rattle.wl_bytes.specs.declared.leb.LebForm.TheVariants.{S32, S33, S64}
use Rattle.wl_bytes.proofs.Steps.{err_is}
use Rattle.wl_bytes.proofs.Readings.{IsReading}
use Rattle.wl_bytes.proofs.SignedLaws.{signed_reading}
use Rattle.wl_bytes.proofs.GrammarLaws.{then_reading, map_reading, seen_reading, times_reading, error_reading}
use Rattle.wl_bytes.specs.declared.read_error.Why.TheVariants.{BadByte}
use Rattle.wl_bytes.specs.declared.read_error.Form.TheVariants.{Operator}
use Rattle.wl_bytes.specs.declared.read_error.ReadError.{ReadError}
use Rattle.wl_bytes.specs.declared.read_error.ReadError.TheVariants.{Malformed, Unsupported}
use Rattle.wl_bytes.specs.Error.{read_error}
use Rattle.wl_bytes.specs.Lists.{NumberFault, number_at, ByteFault, one_byte_at}
use Rattle.wl_bytes.specs.Checks.{Where, WhereFault, unless, where_at, When, when_at, IsNothing, NoFault, nothing_at, Seen}
use Rattle.wl_bytes.specs.Lists.{SignedNumberFault, signed_number_at}
use Rattle.wl_bytes.proofs.ListLaws.{number_reading, one_byte_reading}
use Rattle.wl_bytes.proofs.CheckLaws.{where_reading, when_reading, nothing_reading}
use Rattle.wl_ops.specs.declared.table.Single.{Single}
use Rattle.wl_ops.specs.declared.table.Single.TheVariants.{Number, Alignment, BlockType, Signed32, Signed64, Byte, ReferenceType, ValueType}
use Rattle.wl_ops.specs.declared.table.Immediate.{Immediate}
use Rattle.wl_ops.specs.declared.table.Immediate.TheVariants.{One, ListOf, Catches}
use Rattle.wl_ops.specs.declared.table.Shape.{Shape}
use Rattle.wl_ops.specs.Table.{immediates, is_prefix, is_element, shape_of}
use Rattle.wl_ops.specs.Immediates.{is_alignment, is_block_type, is_reference_type, is_value_type, IsSingle, SingleFault, single_at, is_catch, catch_numbers, IsCatchKind, CatchKindFault, catch_kind_at, IsCatch, CatchFault, catch_at, counted, counted_lists, IsImmediate, ImmediateFault, immediate_at, joined, AreImmediates, ImmediatesFault, immediates_at}
use Rattle.wl_ops.specs.Operators.{sub_of, IsSub, SubFault, sub_at, IsHead, HeadFault, head_at, IsBehind, IsTaken, taken_shape, IsBehindTaken, BehindFault, OpFault, behind_at, op_of, op_at}

-- what is seen of an item is read as the item is
pub see : {X Y E : Type 0} (f : X → Y) (spells : ℕ → X → List ℕ → Type 0) (wrong : E → Cursor → Type 0) (read : Cursor → Result (X × Cursor) E) → IsReading spells wrong read → IsReading (Seen spells f) wrong (map_at f read)
see f spells wrong read law = seen_reading spells (Seen spells f) wrong read f (λ place x text s. (x, s, refl)) (λ place y text s. s) law

-- ---- single values

signed_number_reading : (f : LebForm) → IsReading (IsSigned (form_of f)) (SignedNumberFault (form_of f)) (signed_number_at (form_of f))
signed_number_reading f = error_reading (IsSigned (form_of f)) (SignedFault (form_of f)) (bytes.signed_at (form_of f)) read_error (signed_reading f)

pub single_reading : (s : Single) → IsReading (IsSingle s) (SingleFault s) (single_at s)
unfolding single_at
single_reading Number = see (λ n. pos n) IsU32 NumberFault number_at number_reading
single_reading Alignment = see (λ n. pos n) (Where IsU32 is_alignment) (WhereFault IsU32 NumberFault (unless is_alignment (Unsupported Operator))) (where_at number_at is_alignment (Unsupported Operator))
    (where_reading IsU32 NumberFault number_at is_alignment (Unsupported Operator) number_reading)
single_reading BlockType = where_reading (IsSigned s33_form) (SignedNumberFault s33_form) (signed_number_at s33_form) is_block_type (Unsupported Operator) (signed_number_reading S33)
single_reading Signed32 = signed_number_reading S32
single_reading Signed64 = signed_number_reading S64
single_reading Byte = see (λ b. pos b) IsByte ByteFault one_byte_at one_byte_reading
single_reading ReferenceType = see (λ b. pos b) (Where IsByte is_reference_type) (WhereFault IsByte ByteFault (unless is_reference_type (Unsupported Operator))) (where_at one_byte_at is_reference_type (Unsupported Operator))
    (where_reading IsByte ByteFault one_byte_at is_reference_type (Unsupported Operator) one_byte_reading)
single_reading ValueType = see (λ b. pos b) (Where IsByte is_value_type) (WhereFault IsByte ByteFault (unless is_value_type (Malformed BadByte))) (where_at one_byte_at is_value_type (Malformed BadByte))
    (where_reading IsByte ByteFault one_byte_at is_value_type (Malformed BadByte) one_byte_reading)

-- ---- catches and lists

kind_reading : IsReading IsCatchKind CatchKindFault catch_kind_at
unfolding catch_kind_at
kind_reading = where_reading IsByte ByteFault one_byte_at is_catch (Malformed BadByte) one_byte_reading

catch_reading : IsReading IsCatch CatchFault catch_at
unfolding catch_at
catch_reading = see counted (Then IsCatchKind (λ k. Times (IsSingle Number) (catch_numbers k))) CatchFault (then_at catch_kind_at (λ k. times_at (single_at Number) (catch_numbers k)))
    (then_reading IsCatchKind (λ k. Times (IsSingle Number) (catch_numbers k)) CatchKindFault (λ k. TimesFault (IsSingle Number) (SingleFault Number) (catch_numbers k)) catch_kind_at (λ k. times_at (single_at Number) (catch_numbers k))
    kind_reading (λ k. times_reading (IsSingle Number) (SingleFault Number) (single_at Number) (single_reading Number) (catch_numbers k)))

immediate_reading : (i : Immediate) → IsReading (IsImmediate i) (ImmediateFault i) (immediate_at i)
unfolding immediate_at
immediate_reading (One s) = see (λ z. z ∷ []) (IsSingle s) (SingleFault s) (single_at s) (single_reading s)
immediate_reading (ListOf s) = see counted (Then IsU32 (Times (IsSingle s))) (ThenFault IsU32 NumberFault (TimesFault (IsSingle s) (SingleFault s))) (then_at number_at (times_at (single_at s)))
    (then_reading IsU32 (Times (IsSingle s)) NumberFault (TimesFault (IsSingle s) (SingleFault s)) number_at (times_at (single_at s)) number_reading (times_reading (IsSingle s) (SingleFault s) (single_at s) (single_reading s)))
immediate_reading Catches = see counted_lists (Then IsU32 (Times IsCatch)) (ThenFault IsU32 NumberFault (TimesFault IsCatch CatchFault)) (then_at number_at (times_at catch_at))
    (then_reading IsU32 (Times IsCatch) NumberFault (TimesFault IsCatch CatchFault) number_at (times_at catch_at) number_reading (times_reading IsCatch CatchFault catch_at catch_reading))

pub immediates_reading : (is : List Immediate) → IsReading (AreImmediates is) (ImmediatesFault is) (immediates_at is)
unfolding immediates_at
immediates_reading [] = see (λ (u : Unit {0}). []) IsNothing NoFault nothing_at nothing_reading
immediates_reading (i ∷ is) = see joined (Then (IsImmediate i) (λ _. AreImmediates is)) (ThenFault (IsImmediate i) (ImmediateFault i) (λ _. ImmediatesFault is)) (then_at (immediate_at i) (λ _. immediates_at is))
    (then_reading (IsImmediate i) (λ _. AreImmediates is) (ImmediateFault i) (λ _. ImmediatesFault is) (immediate_at i) (λ _. immediates_at is) (immediate_reading i) (λ _. immediates_reading is))

-- ---- operators

sub_reading : (code : ℕ) → IsReading (IsSub code) (SubFault code) (sub_at code)
unfolding sub_at
sub_reading code = see sub_of (When IsU32 (is_prefix code)) (SubFault code) (when_at number_at (is_prefix code)) (when_reading IsU32 NumberFault number_at number_reading (is_prefix code))

pub head_reading : IsReading IsHead HeadFault head_at
unfolding head_at
head_reading = then_reading IsByte IsSub ByteFault SubFault one_byte_at sub_at one_byte_reading sub_reading

pub behind_reading : (r : Result Shape ReadError) → IsReading (IsBehindTaken r) (BehindFault r) (behind_at r)
behind_reading (Ok shape) =
    let law = immediates_reading (immediates shape) in
    record {
      found = λ c x to e. let t = law.found c x to e in record { text = t.text; spelled = t.spelled; parts = t.parts; moved = t.moved };
      again = λ c x to t. law.again c x to (record { text = t.text; spelled = t.spelled; parts = t.parts; moved = t.moved });
      fault = λ c e is. law.fault c e is;
      fails = λ c e f. law.fails c e f;
    }
behind_reading (Err d) = record {
  found = λ c x to e. absurd cc;
  again = λ c x to t. absurd t.spelled;
  fault = λ c e is. sym (err_is {A = List ℤ × Cursor} d e is);
  fails = λ c e f. rw f refl;
}

-- an operator is taken where the table has it and it isn't on element segments
taken_so : (h : ℕ × ℕ) (b : Bool) (o : Option Shape) (place : ℕ) (zs : List ℤ) (text : List ℕ) → is_element h.0 h.1 ≡ b → shape_of h.0 h.1 ≡ o → IsBehind (shape_of h.0 h.1) place zs text → not (is_element h.0 h.1) ≡ true → IsBehindTaken (taken_shape h) place zs text
unfolding taken_shape
taken_so h true o place zs text e s b n = absurd (let no = ap not e in cc)
taken_so h false None place zs text e s b n = absurd (let b' : IsBehind None place zs text = subst (λ (o : Option Shape). IsBehind o place zs text) s b in b')
taken_so h false (Some shape) place zs text e s b n =
    let b' : IsBehind (Some shape) place zs text = subst (λ (o : Option Shape). IsBehind o place zs text) s b in
    rw (e, s) b'

taken_is : (h : ℕ × ℕ) (b : Bool) (o : Option Shape) (place : ℕ) (zs : List ℤ) (text : List ℕ) → is_element h.0 h.1 ≡ b → shape_of h.0 h.1 ≡ o → IsBehindTaken (taken_shape h) place zs text → IsBehind (shape_of h.0 h.1) place zs text × (not (is_element h.0 h.1) ≡ true)
unfolding taken_shape
taken_is h true o place zs text e s b = absurd (rw e at b)
taken_is h false None place zs text e s b = absurd (rw (e, s) at b)
taken_is h false (Some shape) place zs text e s b = (rw s (rw (e, s) at b), ap not e)

pub op_reading : IsReading IsTaken OpFault op_at
unfolding op_at
op_reading = map_reading (Then IsHead (λ h. IsBehindTaken (taken_shape h))) IsTaken OpFault (then_at head_at (λ h. behind_at (taken_shape h))) op_of (λ op. ((op.code, op.sub), op.args))
    (λ place p text s. let b = taken_is p.0 (is_element p.0.0 p.0.1) (shape_of p.0.0 p.0.1) (place + length s.0) p.1 s.1 refl refl s.4 in ((s.0, s.1, s.2, s.3, b.0), b.1))
    (λ place op text s. ((s.0.0, s.0.1, s.0.2, s.0.3, taken_so (op.code, op.sub) (is_element op.code op.sub) (shape_of op.code op.sub) (place + length s.0.0) op.args s.0.1 refl refl s.0.4 s.1), refl))
    (then_reading IsHead (λ h. IsBehindTaken (taken_shape h)) HeadFault (λ h. BehindFault (taken_shape h)) head_at (λ h. behind_at (taken_shape h)) head_reading (λ h. behind_reading (taken_shape h)))
