-- Constant expressions (core specification, "Expressions" and "Constant Expressions").
use Rattle.std.specs.Prelude.{◌≡◌, ℕ, ◌-◌, ◌==◌, Bool, List, [], ◌∷◌, ◌++◌, Option, Some, None, Result, Ok, take}
use Rattle.wl_bytes.specs.Cursor.{Cursor}
use Rattle.wl_bytes.specs.Parse.{Takes, ◌>>=◌}
use Rattle.wl_bytes.specs.Leb.{s32_form, s64_form, IsU32, IsSigned}
use Rattle.wl_bytes.specs.Items.{IsStretch}
use Rattle.wl_bytes.specs.Grammar.{Then, ThenFault, then_at, Items, map_at}
use Rattle.wl_module.specs.declared.constants.ConstOperator.{ConstOperator}
use Rattle.wl_module.specs.declared.constants.ConstOperator.TheVariants.{I32Const, I64Const, F32Const, F64Const, GlobalGet, RefNull, RefFunc, I32Add, I32Sub, I32Mul, I64Add, I64Sub, I64Mul, Vector}
use Rattle.wl_module.specs.declared.types.ValType.{ValType}
use Rattle.wl_bytes.specs.declared.read_error.Why.TheVariants.{Truncated}
use Rattle.wl_bytes.specs.declared.read_error.Form.TheVariants.{ConstOperator as OtherOperator, Operator}
use Rattle.wl_bytes.specs.declared.read_error.ReadError.{ReadError}
use Rattle.wl_bytes.specs.declared.read_error.ReadError.TheVariants.{Malformed, Unsupported}
use Rattle.wl_bytes.specs.Lists.{NumberFault, number_at, IsCoded, CodedFault, coded_at, StretchFault, stretch_at, SignedNumberFault, signed_number_at}
use Rattle.wl_module.specs.Types.{value_type_code, value_types, is_reference}
use Rattle.wl_bytes.specs.Checks.{Where, WhereFault, unless, where_at, Any, any_at, IsNothing, NoFault, nothing_at}
use Rattle.wl_bytes.specs.Ends.{ended_at}

-- ---- the first bytes

-- the first byte of each operator
abbrev pub operator_code : ConstOperator → ℕ
operator_code I32Const = 0x41
operator_code I64Const = 0x42
operator_code F32Const = 0x43
operator_code F64Const = 0x44
operator_code GlobalGet = 0x23
operator_code RefNull = 0xd0
operator_code RefFunc = 0xd2
operator_code I32Add = 0x6a
operator_code I32Sub = 0x6b
operator_code I32Mul = 0x6c
operator_code I64Add = 0x7c
operator_code I64Sub = 0x7d
operator_code I64Mul = 0x7e
operator_code Vector = 0xfd

-- an operator, or what ends them
abbrev pub step_code : Option ConstOperator → ℕ
step_code None = 0x0b
step_code (Some o) = operator_code o

-- all of them
abbrev pub all_steps : List (Option ConstOperator)
all_steps =
    None ∷ Some I32Const ∷ Some I64Const ∷ Some F32Const ∷ Some F64Const ∷ Some GlobalGet
    ∷ Some RefNull ∷ Some RefFunc
    ∷ Some I32Add ∷ Some I32Sub ∷ Some I32Mul ∷ Some I64Add ∷ Some I64Sub ∷ Some I64Mul
    ∷ Some Vector ∷ []

-- the next byte
unfoldable pub first_at : Cursor → Result (Option ConstOperator × Cursor) ReadError
first_at c = coded_at step_code all_steps (λ _. Unsupported OtherOperator) c

-- ---- what follows them

-- the byte of a type of references
abbrev pub IsReference : ℕ → ValType → List ℕ → Type 0
IsReference = Where (IsCoded value_type_code) is_reference

-- there is no byte, or another one
abbrev pub ReferenceFault : ReadError → Cursor → Type 0
ReferenceFault =
    WhereFault (IsCoded value_type_code) (CodedFault value_type_code (λ _. Unsupported Operator))
    (unless is_reference (Unsupported Operator))

-- the next such type
unfoldable pub reference_at : Cursor → Result (Unit {0} × Cursor) ReadError
reference_at c =
    any_at (where_at (coded_at value_type_code value_types (λ _. Unsupported Operator)) is_reference
    (Unsupported Operator)) c

-- the number of `v128.const` among the operators that begin as it does
abbrev pub is_vector_const : ℕ → Bool
is_vector_const n = n == 0x0c

-- that number, and sixteen bytes
abbrev pub IsVector : ℕ → ℕ × List ℕ → List ℕ → Type 0
IsVector = Then (Where IsU32 is_vector_const) (λ _. IsStretch 16)

-- the number is at fault, or another one, or the bytes end
abbrev pub VectorFault : ReadError → Cursor → Type 0
VectorFault =
    ThenFault (Where IsU32 is_vector_const)
    (WhereFault IsU32 NumberFault (unless is_vector_const (Unsupported OtherOperator)))
    (λ _. StretchFault 16)

-- the next such number and bytes
unfoldable pub vector_at : Cursor → Result (Unit {0} × Cursor) ReadError
vector_at c =
    any_at (then_at (where_at number_at is_vector_const (Unsupported OtherOperator))
    (λ _. stretch_at 16)) c

-- what follows the first byte of each operator: a number, so many bytes, a type, or nothing
abbrev pub IsConstImmediate : ConstOperator → ℕ → Unit {0} → List ℕ → Type 0
IsConstImmediate I32Const = Any (IsSigned s32_form)
IsConstImmediate I64Const = Any (IsSigned s64_form)
IsConstImmediate F32Const = Any (IsStretch 4)
IsConstImmediate F64Const = Any (IsStretch 8)
IsConstImmediate GlobalGet = Any IsU32
IsConstImmediate RefNull = Any IsReference
IsConstImmediate RefFunc = Any IsU32
IsConstImmediate Vector = Any IsVector
IsConstImmediate _ = IsNothing

-- what is wrong with it
abbrev pub ConstImmediateFault : ConstOperator → ReadError → Cursor → Type 0
ConstImmediateFault I32Const = SignedNumberFault s32_form
ConstImmediateFault I64Const = SignedNumberFault s64_form
ConstImmediateFault F32Const = StretchFault 4
ConstImmediateFault F64Const = StretchFault 8
ConstImmediateFault GlobalGet = NumberFault
ConstImmediateFault RefNull = ReferenceFault
ConstImmediateFault RefFunc = NumberFault
ConstImmediateFault Vector = VectorFault
ConstImmediateFault _ = NoFault

-- what comes next
unfoldable pub const_immediate_at : ConstOperator → Cursor → Result (Unit {0} × Cursor) ReadError
const_immediate_at I32Const c = any_at (signed_number_at s32_form) c
const_immediate_at I64Const c = any_at (signed_number_at s64_form) c
const_immediate_at F32Const c = any_at (stretch_at 4) c
const_immediate_at F64Const c = any_at (stretch_at 8) c
const_immediate_at GlobalGet c = any_at number_at c
const_immediate_at RefNull c = reference_at c
const_immediate_at RefFunc c = any_at number_at c
const_immediate_at Vector c = vector_at c
const_immediate_at _ c = nothing_at c

-- ---- operators

-- an operator: its first byte, and what follows it
abbrev pub IsOperator : ℕ → ConstOperator → List ℕ → Type 0
IsOperator place o text = Then (IsCoded operator_code) IsConstImmediate place (o, tt) text

-- after the end nothing more belongs to the expression
abbrev pub IsStepImmediate : Option ConstOperator → ℕ → Unit {0} → List ℕ → Type 0
IsStepImmediate None = IsNothing
IsStepImmediate (Some o) = IsConstImmediate o

-- an operator, or the end
abbrev pub IsStep : ℕ → Option ConstOperator → List ℕ → Type 0
IsStep place o text = Then (IsCoded step_code) IsStepImmediate place (o, tt) text

-- what is wrong after the first byte
abbrev pub StepImmediateFault : Option ConstOperator → ReadError → Cursor → Type 0
StepImmediateFault None = NoFault
StepImmediateFault (Some o) = ConstImmediateFault o

-- there is no byte, or one that begins no operator and isn't the end; or what follows it is
-- at fault
abbrev pub StepFault : ReadError → Cursor → Type 0
StepFault =
    ThenFault (IsCoded step_code) (CodedFault step_code
    (λ _. Unsupported OtherOperator)) StepImmediateFault

-- what follows the first byte
abbrev pub step_immediate_at : Option ConstOperator → Cursor → Result (Unit {0} × Cursor) ReadError
step_immediate_at None c = nothing_at c
step_immediate_at (Some o) c = const_immediate_at o c

-- the next operator or the end
unfoldable pub step_at : Cursor → Result (Option ConstOperator × Cursor) ReadError
step_at c = map_at (λ p. p.0) (then_at first_at step_immediate_at) c

-- ---- expressions

-- operators, and then the byte 0x0b, which isn't kept
abbrev pub IsExpression : ℕ → List ℕ → List ℕ → Type 0
IsExpression place body text =
    (os : List ConstOperator) × (text ≡ body ++ 0x0b ∷ []) × Items IsOperator place os body

-- after some operators stands neither another one nor the end
abbrev pub ExpressionFault : ReadError → Cursor → Type 0
ExpressionFault e from =
    (os : List ConstOperator) × (mid : Cursor) × Takes (Items IsOperator) os from mid
    × StepFault e mid

-- the next expression
unfoldable pub expression_at : Cursor → Result (List ℕ × Cursor) ReadError
expression_at c =
    ended_at step_at (Malformed Truncated) c
    >>= λ p. Ok (take (p.1.position - c.position - 1) c.rest, p.1)
