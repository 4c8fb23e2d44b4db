-- What encoding a body answers, and what is written on the way.
use Rattle.std.specs.Prelude.{◌≡◌, ℕ, ℤ, pos, negsuc, ◌==◌, nat_lt, true, if◌then◌else◌, List, [], ◌∷◌, ◌++◌, Option, Some, None}
use Rattle.std.specs.List.{AllByRecursion, Contains}
use Rattle.wl_ops.specs.declared.op.Op.{Op}
use Rattle.wl_ops.specs.Decoding.{is_ended, AreTaken}
use Rattle.wl_synth.specs.declared.operator.Operator.{Operator}
use Rattle.wl_synth.specs.declared.error.SynthError.{SynthError}
use Rattle.wl_synth.specs.declared.error.SynthError.TheVariants.{OutOfMemory, Range}
use Rattle.wl_synth.specs.Spelling.{IsSpelled, IsSpelledBody, as_op}

-- ---- constants

-- the first immediate, where it is above all that 32 signed bits hold
abbrev pub great_in : List ℤ → Option ℕ
great_in [] = None
great_in (pos n ∷ zs) = if nat_lt 2147483647 n then Some n else None
great_in (negsuc n ∷ zs) = None

-- the number of a constant of 32 bits, where it is above all that 32 signed bits hold
abbrev pub great_constant : Op → Option ℕ
great_constant op = if op.code == 0x41 then great_in op.args else None

-- no constant is that great
abbrev pub AreInRange : List Op → Type 0
AreInRange ops = AllByRecursion (λ op. great_constant op ≡ None) ops

-- ---- answers

-- A body spells the operators in their shortest form, their constants are in range, and it decodes
-- to them.
pub record IsEncoded (ops : List Op) (body : List ℕ) : Type 0 where
  pub spelled : IsSpelledBody ops body
  pub in_range : AreInRange ops
  pub decodes : AreTaken ops body

-- why operators aren't encoded, unless memory ran out: one of them is a constant that is too great
abbrev pub EncodeFault : List Op → SynthError → Type 0
EncodeFault ops OutOfMemory = Unit {0}
EncodeFault ops (Range v) = (op : Op) × Contains ops op × (great_constant op ≡ Some v)

-- ---- on the way

-- new is old, and after it a text
pub record AddsText (spells : List ℕ → Type 0) (old new : List ℕ) : Type 0 where
  pub text : List ℕ
  pub spelled : spells text
  pub parts : new ≡ old ++ text

-- an operator is written after what was there, and its constant is in range
pub record AddsOperator (operator : Operator) (old new : List ℕ) : Type 0 where
  pub added : AddsText (IsSpelled (as_op operator)) old new
  pub in_range : great_constant (as_op operator) ≡ None

-- a body is written, which decodes to its operators if they end
pub record IsWritten (ops : List Op) (body : List ℕ) : Type 0 where
  pub spelled : IsSpelledBody ops body
  pub in_range : AreInRange ops
  pub decodes : is_ended ops ≡ true → AreTaken ops body
