-- Operators have one body at most, and none where a constant is too great.
use Rattle.std.proofs.Common.{◌≡◌, ℕ, ℤ, pos, negsuc, List, [], ◌∷◌, ◌++◌, Option, Some, None, sym, ap, ◌∙◌}
use Rattle.wl_bytes.specs.Leb.{IsShortest, IsShortestSleb}
use Rattle.wl_ops.specs.declared.op.Op.{Op}
use Rattle.wl_synth.specs.Spelling.{IsShortImmediate, AreShortImmediates, IsSpelled, AreSpelled, signed_bits, values_of}
use Rattle.wl_synth.specs.Encoding.{IsEncoded}

-- Numbers have one shortest form each.
pub record OneForm : Type 0 where
  pub unsigned : (n : ℕ) (text other : List ℕ) → IsShortest n text → IsShortest n other → text ≡ other
  pub signed : (z : ℤ) (text other : List ℕ) → IsShortestSleb z text → IsShortestSleb z other → text ≡ other

immediate_one : OneForm → (bits : Option ℕ) (z : ℤ) (text other : List ℕ) → IsShortImmediate bits z text → IsShortImmediate bits z other → text ≡ other
immediate_one r None (pos n) text other s t = r.unsigned n text other s.1 t.1
immediate_one r None (negsuc n) text other s t = absurd s
immediate_one r (Some bits) z text other s t = r.signed z text other s.1 t.1

-- two texts of equal parts
joined : (text other front front' back back' : List ℕ) → text ≡ front ++ back → other ≡ front' ++ back' → front ≡ front' → back ≡ back' → text ≡ other
joined text other front front' back back' e f g h = cc

immediates_one : OneForm → (bits : Option ℕ) (zs : List ℤ) (text other : List ℕ) → AreShortImmediates bits zs text → AreShortImmediates bits zs other → text ≡ other
immediates_one r bits [] text other s t = s ∙ sym t
immediates_one r bits (z ∷ zs) text other s t =
    joined text other s.0 t.0 s.1 t.1 s.2 t.2 (immediate_one r bits z s.0 t.0 s.3 t.3) (immediates_one r bits zs s.1 t.1 s.4 t.4)

operator_one : OneForm → (op : Op) (text other : List ℕ) → IsSpelled op text → IsSpelled op other → text ≡ other
operator_one r op text other s t =
    s.1 ∙ ap (λ (x : List ℕ). op.code ∷ x) (immediates_one r (signed_bits op.code) (values_of op) s.0 t.0 s.2 t.2) ∙ sym t.1

operators_one : OneForm → (ops : List Op) (text other : List ℕ) → AreSpelled ops text → AreSpelled ops other → text ≡ other
operators_one r [] text other s t = s ∙ sym t
operators_one r (op ∷ ops) text other s t =
    joined text other s.0 t.0 s.1 t.1 s.2 t.2 (operator_one r op s.0 t.0 s.3 t.3) (operators_one r ops s.1 t.1 s.4 t.4)

pub body_one : OneForm → (ops : List Op) (body other : List ℕ) → IsEncoded ops body → IsEncoded ops other → body ≡ other
body_one r ops body other e f =
    let s = e.spelled in
    let t = f.spelled in
    s.1 ∙ ap (λ (x : List ℕ). 0 ∷ x) (operators_one r ops s.0 t.0 s.2 t.2) ∙ sym t.1
