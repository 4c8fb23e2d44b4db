-- Operators and immediates take at least a byte each, so a body has no more of them than bytes.
use Rattle.std.proofs.Common.{ℕ, ℤ, ◌+◌, ◌≤◌, List, [], ◌∷◌, length, Option, Some, None, ap, arith, length-append}
use Rattle.std.specs.List.{flat_map}
use Rattle.std.proofs.lemmas.List.Sums.{sum_by-cons}
use Rattle.wl_bytes.specs.Leb.{NumberForm, s32_form, s33_form, s64_form, IsSigned}
use Rattle.wl_bytes.specs.Grammar.{Items}
use Rattle.wl_module.proofs.CountLaws.{HasBytes, number_bytes, items_few as each_has_bytes}
use Rattle.wl_ops.specs.declared.table.Single.{Single}
use Rattle.wl_ops.specs.declared.table.Single.TheVariants.{Number, Alignment, BlockType, Signed32, Signed64, Byte, ReferenceType, ValueType}
use Rattle.wl_ops.specs.declared.table.Immediate.{Immediate}
use Rattle.wl_ops.specs.declared.table.Immediate.TheVariants.{One, ListOf, Catches}
use Rattle.wl_ops.specs.declared.table.Shape.{Shape}
use Rattle.wl_ops.specs.declared.op.Op.{Op}
use Rattle.wl_ops.specs.Table.{immediates, shape_of}
use Rattle.wl_ops.specs.Immediates.{IsSingle, IsCatch, IsImmediate, AreImmediates}
use Rattle.wl_ops.specs.Operators.{IsBehind, IsOp}
use Rattle.wl_ops.specs.Decoding.{AreTaken, list_items}

signed_bytes : (f : NumberForm) → HasBytes (IsSigned f)
signed_bytes f place z text s = omega (arith, ap length s.leb.parts, length-append s.leb.front (s.leb.end ∷ []))

single_bytes : (k : Single) → HasBytes (IsSingle k)
single_bytes Number place z text s = number_bytes place s.0 text s.1
single_bytes Alignment place z text s = number_bytes place s.0 text s.1.0
single_bytes BlockType place z text s = signed_bytes s33_form place z text s.0
single_bytes Signed32 place z text s = signed_bytes s32_form place z text s
single_bytes Signed64 place z text s = signed_bytes s64_form place z text s
single_bytes Byte place z text s = omega (arith, ap length s.1)
single_bytes ReferenceType place z text s = omega (arith, ap length s.1.0)
single_bytes ValueType place z text s = omega (arith, ap length s.1.0)

singles_few : (k : Single) (place : ℕ) (zs : List ℤ) (text : List ℕ) → Items (IsSingle k) place zs text → length zs ≤ length text
singles_few k place zs text s = each_has_bytes (IsSingle k) (single_bytes k) place zs text s

catch_few : (place : ℕ) (zs : List ℤ) (text : List ℕ) → IsCatch place zs text → length zs ≤ length text
catch_few place zs text s =
    let others = singles_few Number (place + length s.1.0) s.0.1 s.1.1 s.1.4.1 in
    omega (arith, others, ap length s.1.3.0, ap length s.1.2, length-append s.1.0 s.1.1, ap length s.2)

catches_few : (place : ℕ) (zss : List (List ℤ)) (text : List ℕ) → Items IsCatch place zss text → length (flat_map (λ zs. zs) zss) ≤ length text
catches_few place [] text s = omega arith
catches_few place (zs ∷ zss) text s =
    let one = catch_few place zs s.0 s.3 in
    let others = catches_few (place + length s.0) zss s.1 s.4 in
    omega (arith, one, others, ap length s.2, length-append s.0 s.1, length-append zs (flat_map (λ zs. zs) zss))

immediate_few : (i : Immediate) (place : ℕ) (zs : List ℤ) (text : List ℕ) → IsImmediate i place zs text → length zs ≤ length text
immediate_few (One k) place zs text s = let some = single_bytes k place s.0 text s.1 in omega (arith, some, ap length s.2)
immediate_few (ListOf k) place zs text s =
    let count = number_bytes place s.0.0 s.1.0 s.1.3 in
    let others = singles_few k (place + length s.1.0) s.0.1 s.1.1 s.1.4.1 in
    omega (arith, count, others, ap length s.1.2, length-append s.1.0 s.1.1, ap length s.2)
immediate_few Catches place zs text s =
    let count = number_bytes place s.0.0 s.1.0 s.1.3 in
    let others = catches_few (place + length s.1.0) s.0.1 s.1.1 s.1.4.1 in
    omega (arith, count, others, ap length s.1.2, length-append s.1.0 s.1.1, ap length s.2)

immediates_few : (is : List Immediate) (place : ℕ) (zs : List ℤ) (text : List ℕ) → AreImmediates is place zs text → length zs ≤ length text
immediates_few [] place zs text s = omega (arith, ap length s.2)
immediates_few (i ∷ is) place zs text s =
    let one = immediate_few i place s.0.0 s.1.0 s.1.3 in
    let others = immediates_few is (place + length s.1.0) s.0.1 s.1.1 s.1.4 in
    omega (arith, one, others, ap length s.1.2, length-append s.1.0 s.1.1, length-append s.0.0 s.0.1, ap length s.2)

behind_few : (o : Option Shape) (place : ℕ) (zs : List ℤ) (text : List ℕ) → IsBehind o place zs text → length zs ≤ length text
behind_few None place zs text s = absurd s
behind_few (Some shape) place zs text s = immediates_few (immediates shape) place zs text s

op_few : (place : ℕ) (op : Op) (text : List ℕ) → IsOp place op text → 1 + length op.args ≤ length text
op_few place op text s =
    let others = behind_few (shape_of op.code op.sub) (place + length s.0) op.args s.1 s.4 in
    omega (arith, others, ap length s.2, length-append s.0 s.1, ap length s.3.2, length-append s.3.0 s.3.1, ap length s.3.3)

all_few : (place : ℕ) (ops : List Op) (text : List ℕ) → Items IsOp place ops text → list_items ops ≤ length text
all_few place [] text s = omega arith
all_few place (op ∷ ops) text s =
    let one = op_few place op s.0 s.3 in
    let others = all_few (place + length s.0) ops s.1 s.4 in
    omega (arith, one, others, ap length s.2, length-append s.0 s.1, sum_by-cons (λ (o : Op). 1 + length o.args) op ops)

-- a body has no more operators and immediates than bytes
pub items_few : (ops : List Op) (body : List ℕ) → AreTaken ops body → list_items ops ≤ length body
items_few ops body s =
    let few = all_few (length s.0.1) ops s.0.2 s.0.5 in
    omega (arith, few, ap length s.0.3, length-append s.0.1 s.0.2)

-- and no more operators
pub ops_few : (ops : List Op) (body : List ℕ) → AreTaken ops body → length ops ≤ length body
ops_few ops body s =
    let few = each_has_bytes IsOp (λ place op text s. let one = op_few place op text s in omega (arith, one)) (length s.0.1) ops s.0.2 s.0.5 in
    omega (arith, few, ap length s.0.3, length-append s.0.1 s.0.2)
