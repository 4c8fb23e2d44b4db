-- Ordinals of kept units of a kind are dense: each number below one is another's, and no two are the same.
use Rattle.std.proofs.Common.{◌≡◌, ℕ, zero, suc, ◌+◌, ◌<◌, ◌≤◌, Bool, true, cond, inl, inr, refl, ap, sym, ◌∙◌, arith, Some, None}
use Rattle.std.proofs.lemmas.Bool.{cases_Bool, cases_lt, cases_order, cond-true}
use Rattle.std.proofs.lemmas.Option.{cond_some}
use Rattle.wl_symbols.specs.declared.units.LinkUnit.{LinkUnit}
use Rattle.wl_symbols.specs.declared.units.WasmGcUnit.{WasmGcUnit}
use Rattle.wl_symbols.specs.declared.units.WasmGcUnit.TheVariants.{DefinedFunction, DefinedGlobal, DataSegment, FunctionImport, GlobalImport}
use Rattle.wl_symbols.specs.Units.{unit_index, sibling_of}
use Rattle.wl_symbols.specs.Live.{Live, is_live, live_below, ordinal_of, AreOfOneKind}
use Rattle.wl_symbols.proofs.NumberingLaws.{same_place}

-- the unit of the same kind and object with that number
abbrev pub sibling : LinkUnit → ℕ → LinkUnit
sibling u k = record { object = u.object; unit = sibling_of u.unit k }

pub sibling-sibling : (u : WasmGcUnit) (j k : ℕ) → sibling_of (sibling_of u j) k ≡ sibling_of u k
sibling-sibling (DefinedFunction i) j k = refl
sibling-sibling (DefinedGlobal i) j k = refl
sibling-sibling (DataSegment i) j k = refl
sibling-sibling (FunctionImport i) j k = refl
sibling-sibling (GlobalImport i) j k = refl

pub index-sibling : (u : WasmGcUnit) (k : ℕ) → unit_index (sibling_of u k) ≡ k
index-sibling (DefinedFunction i) k = refl
index-sibling (DefinedGlobal i) k = refl
index-sibling (DataSegment i) k = refl
index-sibling (FunctionImport i) k = refl
index-sibling (GlobalImport i) k = refl

pub sibling-own : (u : WasmGcUnit) → sibling_of u (unit_index u) ≡ u
sibling-own (DefinedFunction i) = refl
sibling-own (DefinedGlobal i) = refl
sibling-own (DataSegment i) = refl
sibling-own (FunctionImport i) = refl
sibling-own (GlobalImport i) = refl

pub same_sibling : (u : LinkUnit) (j k : ℕ) → sibling (sibling u j) k ≡ sibling u k
same_sibling u j k = same_place (sibling (sibling u j) k) (sibling u k) refl (sibling-sibling u.unit j k)

pub below-sibling : (live : Live) (u : LinkUnit) (j n : ℕ) → live_below live (sibling u j) n ≡ live_below live u n
below-sibling live u j zero = refl
below-sibling live u j (suc n) =
    ap (λ (m : ℕ). m + cond {A = ℕ} (is_live live (sibling (sibling u j) n)) 1 0) (below-sibling live u j n)
    ∙ ap (λ (w : LinkUnit). live_below live u n + cond {A = ℕ} (is_live live w) 1 0) (same_sibling u j n)

-- ---- each number below

-- a live unit of the kind below n follows k others
pub record Found (live : Live) (u : LinkUnit) (k n : ℕ) : Type 0 where
  pub place : ℕ
  pub below : place < n
  pub on : is_live live (sibling u place) ≡ true
  pub behind : live_below live u place ≡ k

pub found_more : (live : Live) (u : LinkUnit) (k n : ℕ) → Found live u k n → Found live u k (suc n)
found_more live u k n f = record { place = f.place; below = omega (arith, f.below); on = f.on; behind = f.behind }

pub find_below : (live : Live) (u : LinkUnit) (k n : ℕ) → k < live_below live u n → Found live u k n
find_below live u k zero lt = absurd (omega (arith, lt))
find_below live u k (suc n) lt =
    elim (cases_lt k (live_below live u n)) [
      | inl less ↦ found_more live u k n (find_below live u k n less)
      | inr le ↦
          elim (cases_Bool (is_live live (sibling u n))) [
            | inl on ↦
                let one : live_below live u (suc n) ≡ live_below live u n + 1 = ap (λ (b : Bool). live_below live u n + cond {A = ℕ} b 1 0) on in
                record { place = n; below = omega arith; on = on; behind = omega (arith, one, lt, le) }
            | inr off ↦
                let none : live_below live u (suc n) ≡ live_below live u n + 0 = ap (λ (b : Bool). live_below live u n + cond {A = ℕ} b 1 0) off in
                absurd (omega (arith, none, lt, le))
          ]
    ]

-- ---- no two are the same

pub below-le : (live : Live) (u : LinkUnit) (j n : ℕ) → j ≤ n → live_below live u j ≤ live_below live u n
below-le live u j zero le = let same : j ≡ 0 = omega arith in rw same (omega arith)
below-le live u j (suc n) le =
    elim (cases_lt j (suc n)) [
      | inl less ↦ omega (arith, below-le live u j n (omega arith))
      | inr more ↦ let same : j ≡ suc n = omega arith in rw same (omega arith)
    ]

pub below-lt : (live : Live) (u : LinkUnit) (j n : ℕ) → j < n → is_live live (sibling u j) ≡ true → live_below live u j < live_below live u n
below-lt live u j n lt on =
    let one : live_below live u (suc j) ≡ live_below live u j + 1 = ap (λ (b : Bool). live_below live u j + cond {A = ℕ} b 1 0) on in
    omega (arith, one, below-le live u (suc j) n (omega arith))

-- ---- ordinals

pub ordinal_parts : (live : Live) (u : LinkUnit) (n : ℕ) → ordinal_of live u ≡ Some n → (is_live live u ≡ true) × (live_below live u (unit_index u.unit) ≡ n)
ordinal_parts live u n e = cond_some (is_live live u) (live_below live u (unit_index u.unit)) n e

pub ordinal_is : (live : Live) (u : LinkUnit) (n : ℕ) → is_live live u ≡ true → live_below live u (unit_index u.unit) ≡ n → ordinal_of live u ≡ Some n
ordinal_is live u n on e = cond-true (is_live live u) (Some (live_below live u (unit_index u.unit))) None on ∙ ap (λ (k : ℕ). Some k) e

pub ordinal_before : (live : Live) (u : LinkUnit) (k n : ℕ) → ordinal_of live u ≡ Some n → k < n → (v : LinkUnit) × AreOfOneKind u v × (ordinal_of live v ≡ Some k)
ordinal_before live u k n e lt =
    let p = ordinal_parts live u n e in
    let f = find_below live u k (unit_index u.unit) (omega (arith, p.1, lt)) in
    let v : LinkUnit = sibling u f.place in
    let index : unit_index v.unit ≡ f.place = index-sibling u.unit f.place in
    let kind : v.unit ≡ sibling_of u.unit (unit_index v.unit) = ap (λ (i : ℕ). sibling_of u.unit i) (sym index) in
    let count : live_below live v (unit_index v.unit) ≡ k = ap (λ (i : ℕ). live_below live v i) index ∙ (below-sibling live u f.place f.place ∙ f.behind) in
    (v, record { object = refl; kind = kind }, ordinal_is live v k f.on count)

-- of two live units of a kind the later one has the greater ordinal
pub ordinal_lt : (live : Live) (u v : LinkUnit) (m n : ℕ) → AreOfOneKind u v → ordinal_of live u ≡ Some m → ordinal_of live v ≡ Some n → unit_index u.unit < unit_index v.unit → m < n
ordinal_lt live u v m n same eu ev lt =
    let p = ordinal_parts live u m eu in
    let q = ordinal_parts live v n ev in
    let own : sibling u (unit_index u.unit) ≡ u = same_place (sibling u (unit_index u.unit)) u refl (sibling-own u.unit) in
    let other : sibling u (unit_index v.unit) ≡ v = same_place (sibling u (unit_index v.unit)) v (sym same.object) (sym same.kind) in
    let on : is_live live (sibling u (unit_index u.unit)) ≡ true = ap (λ (w : LinkUnit). is_live live w) own ∙ p.0 in
    let count : live_below live u (unit_index v.unit) ≡ n = sym (below-sibling live u (unit_index v.unit) (unit_index v.unit)) ∙ (ap (λ (w : LinkUnit). live_below live w (unit_index v.unit)) other ∙ q.1) in
    omega (arith, p.1, count, below-lt live u (unit_index u.unit) (unit_index v.unit) lt on)

pub one_kind_sym : (u v : LinkUnit) → AreOfOneKind u v → AreOfOneKind v u
one_kind_sym u v same = record {
  object = sym same.object;
  kind = sym (sibling-own u.unit) ∙ (sym (sibling-sibling u.unit (unit_index v.unit) (unit_index u.unit)) ∙ ap (λ (w : WasmGcUnit). sibling_of w (unit_index u.unit)) (sym same.kind));
}

pub ordinal_apart : (live : Live) (u v : LinkUnit) (n : ℕ) → AreOfOneKind u v → ordinal_of live u ≡ Some n → ordinal_of live v ≡ Some n → u ≡ v
ordinal_apart live u v n same eu ev =
    elim (cases_order (unit_index u.unit) (unit_index v.unit)) [
      | inl equal ↦
          let unit : u.unit ≡ v.unit = sym (sibling-own u.unit) ∙ (ap (λ (i : ℕ). sibling_of u.unit i) equal ∙ sym same.kind) in
          same_place u v (sym same.object) unit
      | inr (inl less) ↦ absurd (omega (arith, ordinal_lt live u v n n same eu ev less))
      | inr (inr more) ↦ absurd (omega (arith, ordinal_lt live v u n n (one_kind_sym u v same) ev eu more))
    ]
