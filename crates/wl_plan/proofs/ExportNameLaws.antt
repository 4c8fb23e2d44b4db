-- No two exports of a plan have one name.
use Rattle.std.proofs.Common.{◌≡◌, ◌∙◌, ◌<◌, inl, inr, ℕ, zero, suc, Bool, true, false, List, [], ◌∷◌, ◌++◌, refl, sym, subst, arith, Some, slice_get}
use Rattle.std.specs.List.{list_any}
use Rattle.std.proofs.lemmas.Bool.{cases_Bool, cases_lt}
use Rattle.std.proofs.lemmas.Option.{same_Some, slice_get_within}
use Rattle.std.proofs.lemmas.Slice.Eq.{bytes_eq-Decides}
use Rattle.wl_linking.specs.Steps.{Clear}
use Rattle.wl_linking.specs.declared.error.LinkError.TheVariants.{DuplicateExport}
use Rattle.wl_lists.proofs.Found.{any_front, any_in}
use Rattle.wl_lists.proofs.In.{IsIn, in_at}
use Rattle.wl_lists.proofs.Places.{append_split, there_is}
use Rattle.wl_module.specs.Exports.{Exported}
use Rattle.wl_symbols.specs.Link.{Link}
use Rattle.wl_symbols.specs.Input.{Input}
use Rattle.wl_exports.specs.Exports.{ExportEntry, exports, first_exports, later_exports, same_name, unless_taken}
use Rattle.wl_exports.specs.Faults.{IsExportFault}
use Rattle.wl_exports.specs.Wrapped.{AreOutputExports, IsExportIf, is_wrapped}
use Rattle.wl_plan.specs.Faults.{input_of}
use Rattle.wl_plan.specs.LinkPlan.{IsPlanOf}
use Rattle.wl_plan.specs.declared.layout.LinkPlan.{LinkPlan}
use Rattle.wl_plan.proofs.ClearLaws.{is_clear}

-- ---- names after others

any_before : (test : ExportEntry → Bool) (xs ys : List ExportEntry)
    → list_any test (xs ++ ys) ≡ false → list_any test xs ≡ false
any_before test xs ys none = elim (cases_Bool (list_any test xs)) [
  | inl some ↦ absurd (let bad : true ≡ false = sym (any_front test xs ys some) ∙ none in cc)
  | inr fails ↦ fails
]

not_in : (test : ExportEntry → Bool) (xs : List ExportEntry) (x : ExportEntry)
    → list_any test xs ≡ false → IsIn xs x → test x ≡ false
not_in test xs x none there = elim (cases_Bool (test x)) [
  | inl passes ↦ absurd (let bad : true ≡ false = sym (any_in test xs x there passes) ∙ none in cc)
  | inr fails ↦ fails
]

in_last : (xs : List ExportEntry) (x : ExportEntry) → IsIn (xs ++ x ∷ []) x
in_last [] x = inl refl
in_last (y ∷ xs) x = inr (in_last xs x)

-- what isn't taken has a name that none before it has
untaken : (before xs : List ExportEntry) (e : ExportEntry) → IsIn (unless_taken before xs) e
    → list_any (same_name e) before ≡ false
untaken before [] e h = absurd h
untaken before (x ∷ xs) e h = elim (cases_Bool (list_any (same_name x) before)) [
  | inl taken ↦
      any_before (same_name e) before (x ∷ []) (untaken (before ++ x ∷ []) xs e (rw taken at h))
  | inr free ↦ (let split : IsIn (x ∷ unless_taken (before ++ x ∷ []) xs) e = rw free at h in elim split [
    | inl is ↦ subst (λ (y : ExportEntry). list_any (same_name y) before ≡ false) is free
    | inr behind ↦
        any_before (same_name e) before (x ∷ []) (untaken (before ++ x ∷ []) xs e behind)
  ])
]

-- among these no two have one name
apart : (before xs : List ExportEntry) (i k : ℕ) (x y : ExportEntry) → i < k
    → slice_get (unless_taken before xs) i ≡ Some x → slice_get (unless_taken before xs) k ≡ Some y
    → same_name y x ≡ false
apart before [] i k x y lt here there = absurd cc
apart before (z ∷ xs) i k x y lt here there = elim (cases_Bool (list_any (same_name z) before)) [
  | inl taken ↦ apart (before ++ z ∷ []) xs i k x y lt (rw taken at here) (rw taken at there)
  | inr free ↦
      at (λ j l less a b. apart (before ++ z ∷ []) xs j l x y less a b) i k lt (rw free at here)
      (rw free at there)
]
  where
    at : ((j l : ℕ) → j < l → slice_get (unless_taken (before ++ z ∷ []) xs) j ≡ Some x
        → slice_get (unless_taken (before ++ z ∷ []) xs) l ≡ Some y → same_name y x ≡ false)
        → (i k : ℕ) → i < k → slice_get (z ∷ unless_taken (before ++ z ∷ []) xs) i ≡ Some x
        → slice_get (z ∷ unless_taken (before ++ z ∷ []) xs) k ≡ Some y → same_name y x ≡ false
    at rest i zero lt here there = absurd (omega (arith, lt))
    at rest zero (suc k) lt here there =
        let none = untaken (before ++ z ∷ []) xs y (in_at (unless_taken (before ++ z ∷ []) xs) k y there) in
        let fails = not_in (same_name y) (before ++ z ∷ []) z none (in_last before z) in
        subst (λ (w : ExportEntry). same_name y w ≡ false) (same_Some z x here) fails
    at rest (suc i) (suc k) lt here there = rest i k (omega (arith, lt)) here there

named_same : (x y : ExportEntry) → x.name ≡ y.name → same_name y x ≡ true
named_same x y is = (bytes_eq-Decides y.name x.name).1 (sym is)

-- among all exports
entries_apart : (input : Input) → Clear (IsExportFault input) → (i k : ℕ) (x y : ExportEntry) → i < k
    → slice_get (exports input) i ≡ Some x → slice_get (exports input) k ≡ Some y
    → x.name ≡ y.name → ⊥
entries_apart input clear i k x y lt here there is =
    let first : List ExportEntry = first_exports input in
    let rest : List ExportEntry = unless_taken first (later_exports input) in
    let same = named_same x y is in
    elim (append_split first rest k y there) [
      | inl second ↦ elim (append_split first rest i x here) [
        | inl one ↦ clear.none (DuplicateExport x.name) (inr (inr (record {
          first = i;
          second = k;
          in_order = lt;
          one = x;
          here = one;
          other = y;
          there = second;
          same = is;
          told = refl;
        })))
        | inr behind ↦
            let within = slice_get_within first k y second in
            let at = behind.1 in
            omega (arith, within, at, lt)
      ]
      | inr behind ↦ elim (append_split first rest i x here) [
        | inl one ↦
            let none = untaken first (later_exports input) y (in_at rest behind.0 y behind.2) in
            let fails = not_in (same_name y) first x none (in_at first i x one) in
            let bad : true ≡ false = sym same ∙ fails in absurd cc
        | inr other ↦
            let a = behind.1 in
            let b = other.1 in
            let fails = apart first (later_exports input) other.0 behind.0 x y (omega (arith, a, b, lt)) other.2 behind.2 in
            let bad : true ≡ false = sym same ∙ fails in absurd cc
      ]
    ]

-- ---- in the output

name_if : (b : Bool) (input : Input) (number : ℕ) (e : ExportEntry) (x : Exported)
    → IsExportIf b input number e x → x.name ≡ e.name
name_if false input number e x h = h.name
name_if true input number e x h = h.0

record IsNamed (input : Input) (place : ℕ) (x : Exported) : Type 0 where
  entry : ExportEntry
  here : slice_get (exports input) place ≡ Some entry
  name : x.name ≡ entry.name

named_at : (input : Input) (xs : List Exported) (place : ℕ) (x : Exported) → AreOutputExports input xs
    → slice_get xs place ≡ Some x → IsNamed input place x
named_at input xs place x are here =
    let within = slice_get_within xs place x here in
    let long = are.len in
    let e = there_is (exports input) place (omega (arith, within, long)) in
    record {
      entry = e.0;
      here = e.1;
      name = name_if (is_wrapped input e.0) input _ e.0 x (are.each place e.0 x e.1 here);
    }

pub different_names : (link : Link) (plan : LinkPlan) (i k : ℕ) (x y : Exported) → IsPlanOf link plan
    → slice_get plan.layout.exports i ≡ Some x → slice_get plan.layout.exports k ≡ Some y
    → x.name ≡ y.name → i ≡ k
different_names link plan i k x y is here there same =
    let input : Input = input_of link is.live in
    let are = is.is_plan.spaces.exports in
    let a = named_at input plan.layout.exports i x are here in
    let b = named_at input plan.layout.exports k y are there in
    let equal : a.entry.name ≡ b.entry.name = sym a.name ∙ (same ∙ b.name) in
    let clear = (is_clear link plan is).exports in
    elim (cases_lt i k) [
      | inl lt ↦ absurd (entries_apart input clear i k a.entry b.entry lt a.here b.here equal)
      | inr le ↦ elim (cases_lt k i) [
        | inl lt ↦ absurd (entries_apart input clear k i b.entry a.entry lt b.here a.here (sym equal))
        | inr ge ↦ omega (arith, le, ge)
      ]
    ]
