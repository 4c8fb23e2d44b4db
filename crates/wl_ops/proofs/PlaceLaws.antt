-- What spells an operator spells it at any place.
use Rattle.std.proofs.Common.{ℕ, ℤ, ◌+◌, Bool, true, false, List, [], ◌∷◌, length, Option, Some, None}
use Rattle.wl_bytes.specs.Leb.{IsU32, IsSigned, NumberForm, s32_form, s33_form, s64_form}
use Rattle.wl_bytes.specs.Grammar.{Items}
use Rattle.wl_bytes.specs.Checks.{When}
use Rattle.wl_ops.specs.declared.table.Single.{Single}
use Rattle.wl_ops.specs.declared.table.Single.TheVariants.{Number, Alignment, BlockType, Signed32, Signed64, Byte, ReferenceType, ValueType}
use Rattle.wl_ops.specs.declared.table.Immediate.{Immediate}
use Rattle.wl_ops.specs.declared.table.Immediate.TheVariants.{One, ListOf, Catches}
use Rattle.wl_ops.specs.declared.table.Shape.{Shape}
use Rattle.wl_ops.specs.declared.op.Op.{Op}
use Rattle.wl_ops.specs.Table.{immediates, is_prefix, shape_of}
use Rattle.wl_ops.specs.Immediates.{IsSingle, IsCatch, IsImmediate, AreImmediates}
use Rattle.wl_ops.specs.Operators.{IsHead, IsBehind, IsTaken}

abbrev pub u32_at : (p q n : ℕ) (t : List ℕ) → IsU32 p n t → IsU32 q n t
u32_at p q n t s = record { leb = s.leb; value = s.value }

signed_there : (f : NumberForm) (p q : ℕ) (z : ℤ) (t : List ℕ) → IsSigned f p z t → IsSigned f q z t
signed_there f p q z t s = record { leb = s.leb; value = s.value }

pub when_there : (b : Bool) (p q : ℕ) (o : Option ℕ) (t : List ℕ) → When IsU32 b p o t → When IsU32 b q o t
when_there false p q o t s = s
when_there true p q None t s = s
when_there true p q (Some n) t s = u32_at p q n t s

single_there : (k : Single) (p q : ℕ) (z : ℤ) (t : List ℕ) → IsSingle k p z t → IsSingle k q z t
single_there Number p q z t s = (s.0, u32_at p q s.0 t s.1, s.2)
single_there Alignment p q z t s = (s.0, (u32_at p q s.0 t s.1.0, s.1.1), s.2)
single_there BlockType p q z t s = (signed_there s33_form p q z t s.0, s.1)
single_there Signed32 p q z t s = signed_there s32_form p q z t s
single_there Signed64 p q z t s = signed_there s64_form p q z t s
single_there Byte p q z t s = s
single_there ReferenceType p q z t s = s
single_there ValueType p q z t s = s

items_there : {X : Type 0} (item : ℕ → X → List ℕ → Type 0) → ((p q : ℕ) (x : X) (t : List ℕ) → item p x t → item q x t) → (xs : List X) (p q : ℕ) (t : List ℕ) → Items item p xs t → Items item q xs t
items_there item free [] p q t s = s
items_there item free (x ∷ xs) p q t s = (s.0, s.1, s.2, free p q x s.0 s.3, items_there item free xs (p + length s.0) (q + length s.0) s.1 s.4)

catch_there : (p q : ℕ) (zs : List ℤ) (t : List ℕ) → IsCatch p zs t → IsCatch q zs t
catch_there p q zs t s = (s.0, (s.1.0, s.1.1, s.1.2, s.1.3, (s.1.4.0, items_there (IsSingle Number) (λ p q z t. single_there Number p q z t) s.0.1 (p + length s.1.0) (q + length s.1.0) s.1.1 s.1.4.1)), s.2)

immediate_there : (i : Immediate) (p q : ℕ) (zs : List ℤ) (t : List ℕ) → IsImmediate i p zs t → IsImmediate i q zs t
immediate_there (One k) p q zs t s = (s.0, single_there k p q s.0 t s.1, s.2)
immediate_there (ListOf k) p q zs t s = (s.0, (s.1.0, s.1.1, s.1.2, u32_at p q s.0.0 s.1.0 s.1.3, (s.1.4.0, items_there (IsSingle k) (λ p q z t. single_there k p q z t) s.0.1 (p + length s.1.0) (q + length s.1.0) s.1.1 s.1.4.1)), s.2)
immediate_there Catches p q zs t s = (s.0, (s.1.0, s.1.1, s.1.2, u32_at p q s.0.0 s.1.0 s.1.3, (s.1.4.0, items_there IsCatch catch_there s.0.1 (p + length s.1.0) (q + length s.1.0) s.1.1 s.1.4.1)), s.2)

all_there : (is : List Immediate) (p q : ℕ) (zs : List ℤ) (t : List ℕ) → AreImmediates is p zs t → AreImmediates is q zs t
all_there [] p q zs t s = s
all_there (i ∷ is) p q zs t s = (s.0, (s.1.0, s.1.1, s.1.2, immediate_there i p q s.0.0 s.1.0 s.1.3, all_there is (p + length s.1.0) (q + length s.1.0) s.0.1 s.1.1 s.1.4), s.2)

pub head_there : (p q : ℕ) (h : ℕ × ℕ) (t : List ℕ) → IsHead p h t → IsHead q h t
head_there p q h t s = (s.0, s.1, s.2, s.3, (s.4.0, when_there (is_prefix h.0) (p + length s.0) (q + length s.0) s.4.0 s.1 s.4.1, s.4.2))

behind_there : (o : Option Shape) (p q : ℕ) (zs : List ℤ) (t : List ℕ) → IsBehind o p zs t → IsBehind o q zs t
behind_there None p q zs t s = s
behind_there (Some shape) p q zs t s = all_there (immediates shape) p q zs t s

pub taken_there : (op : Op) (p q : ℕ) (t : List ℕ) → IsTaken p op t → IsTaken q op t
taken_there op p q t s =
    ((s.0.0, s.0.1, s.0.2, head_there p q (op.code, op.sub) s.0.0 s.0.3, behind_there (shape_of op.code op.sub) (p + length s.0.0) (q + length s.0.0) op.args s.0.1 s.0.4), s.1)
