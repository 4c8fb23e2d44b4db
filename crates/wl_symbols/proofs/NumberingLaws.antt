-- Each unit has a number of its own, and the numbers are few.
use Rattle.std.proofs.Common.{◌≡◌, ℕ, ◌+◌, ◌<◌, ◌≤◌, ◌^◌, true, List, [], ◌∷◌, ◌++◌, length, get_or, take, inl, inr, ap, sym, ◌∙◌, arith, All, sum_by, below_more, Some, None}
use Rattle.std.proofs.lemmas.Bool.{cases_lt, cases_order, ltb-true, cond-true}
use Rattle.std.proofs.lemmas.Option.{cond_some}
use Rattle.std.proofs.lemmas.List.{take-take, take_all, take_more, length_push, get_or_append_left, get_or_push, get_or_read, get_or_past}
use Rattle.std.proofs.lemmas.List.Sums.{sum_by_more, sum_by-take-le, count_by-le-length}
use Rattle.std.proofs.lemmas.List.Elements.{All-push}
use Rattle.wl_bytes.specs.declared.reader.TheConstants.{MAX_LEN}
use Rattle.wl_module.specs.Imports.{Imported}
use Rattle.wl_module.specs.declared.imports.ExternalKind.TheVariants.{Func as FuncKind, Global as GlobalKind}
use Rattle.wl_linking.specs.Fitting.{HasFewItems}
use Rattle.wl_linking.specs.Object.{Object}
use Rattle.wl_linking.specs.Spaces.{count_imports, is_of_kind}
use Rattle.wl_symbols.specs.declared.units.WasmGcUnit.{WasmGcUnit}
use Rattle.wl_symbols.specs.declared.units.WasmGcUnit.TheVariants.{DefinedFunction, DefinedGlobal, DataSegment, FunctionImport, GlobalImport}
use Rattle.wl_symbols.specs.declared.units.LinkUnit.{LinkUnit}
use Rattle.wl_symbols.specs.declared.units.UnitCounts.{UnitCounts}
use Rattle.wl_symbols.specs.Units.{counts_of, no_units, unit_index, count_of_kind, has_unit, number_in_object, unit_count, units_at, exists, units_before, total_of, unit_number, unit_number_if, IsSmall, AreBases}

pub offset-lt : (n : UnitCounts) (u : WasmGcUnit) → has_unit n u ≡ true → number_in_object n u < unit_count n
offset-lt n (DefinedFunction k) h = let lt = ltb-true _ _ h in omega arith
offset-lt n (DefinedGlobal k) h = let lt = ltb-true _ _ h in omega arith
offset-lt n (DataSegment k) h = let lt = ltb-true _ _ h in omega arith
offset-lt n (FunctionImport k) h = let lt = ltb-true _ _ h in omega arith
offset-lt n (GlobalImport k) h = let lt = ltb-true _ _ h in omega arith

pub same_unit_from : (n : UnitCounts) (u v : WasmGcUnit) → unit_index u < count_of_kind n u → unit_index v < count_of_kind n v → number_in_object n u ≡ number_in_object n v → u ≡ v
same_unit_from n (DefinedFunction j) (DefinedFunction k) hu hv e = ap DefinedFunction (omega (arith, e))
same_unit_from n (DefinedFunction j) (DefinedGlobal k) hu hv e = absurd (omega arith)
same_unit_from n (DefinedFunction j) (DataSegment k) hu hv e = absurd (omega arith)
same_unit_from n (DefinedFunction j) (FunctionImport k) hu hv e = absurd (omega arith)
same_unit_from n (DefinedFunction j) (GlobalImport k) hu hv e = absurd (omega arith)
same_unit_from n (DefinedGlobal j) (DefinedFunction k) hu hv e = absurd (omega arith)
same_unit_from n (DefinedGlobal j) (DefinedGlobal k) hu hv e = ap DefinedGlobal (omega (arith, e))
same_unit_from n (DefinedGlobal j) (DataSegment k) hu hv e = absurd (omega arith)
same_unit_from n (DefinedGlobal j) (FunctionImport k) hu hv e = absurd (omega arith)
same_unit_from n (DefinedGlobal j) (GlobalImport k) hu hv e = absurd (omega arith)
same_unit_from n (DataSegment j) (DefinedFunction k) hu hv e = absurd (omega arith)
same_unit_from n (DataSegment j) (DefinedGlobal k) hu hv e = absurd (omega arith)
same_unit_from n (DataSegment j) (DataSegment k) hu hv e = ap DataSegment (omega (arith, e))
same_unit_from n (DataSegment j) (FunctionImport k) hu hv e = absurd (omega arith)
same_unit_from n (DataSegment j) (GlobalImport k) hu hv e = absurd (omega arith)
same_unit_from n (FunctionImport j) (DefinedFunction k) hu hv e = absurd (omega arith)
same_unit_from n (FunctionImport j) (DefinedGlobal k) hu hv e = absurd (omega arith)
same_unit_from n (FunctionImport j) (DataSegment k) hu hv e = absurd (omega arith)
same_unit_from n (FunctionImport j) (FunctionImport k) hu hv e = ap FunctionImport (omega (arith, e))
same_unit_from n (FunctionImport j) (GlobalImport k) hu hv e = absurd (omega arith)
same_unit_from n (GlobalImport j) (DefinedFunction k) hu hv e = absurd (omega arith)
same_unit_from n (GlobalImport j) (DefinedGlobal k) hu hv e = absurd (omega arith)
same_unit_from n (GlobalImport j) (DataSegment k) hu hv e = absurd (omega arith)
same_unit_from n (GlobalImport j) (FunctionImport k) hu hv e = absurd (omega arith)
same_unit_from n (GlobalImport j) (GlobalImport k) hu hv e = ap GlobalImport (omega (arith, e))

pub same_unit : (n : UnitCounts) (u v : WasmGcUnit) → has_unit n u ≡ true → has_unit n v ≡ true → number_in_object n u ≡ number_in_object n v → u ≡ v
same_unit n u v hu hv e = same_unit_from n u v (ltb-true _ _ hu) (ltb-true _ _ hv) e

-- a unit that exists is one of an object
pub none_exist : (u : WasmGcUnit) → has_unit no_units u ≡ true → ⊥
none_exist (DefinedFunction k) h = let lt = ltb-true k 0 h in omega arith
none_exist (DefinedGlobal k) h = let lt = ltb-true k 0 h in omega arith
none_exist (DataSegment k) h = let lt = ltb-true k 0 h in omega arith
none_exist (FunctionImport k) h = let lt = ltb-true k 0 h in omega arith
none_exist (GlobalImport k) h = let lt = ltb-true k 0 h in omega arith

pub object-lt : (ns : List UnitCounts) (u : LinkUnit) → exists ns u ≡ true → u.object < length ns
object-lt ns u h = elim (cases_lt u.object (length ns)) [ inl lt ↦ lt | inr le ↦ absurd (none_exist u.unit (rw (get_or_past ns u.object no_units le) at h)) ]

-- the units of an object, after those of the ones before
pub base_more : (ns : List UnitCounts) (k : ℕ) → k < length ns → units_before ns (k + 1) ≡ units_before ns k + unit_count (units_at ns k)
base_more ns k lt = sum_by_more unit_count ns k no_units lt

pub base-le : (ns : List UnitCounts) (j k : ℕ) → j ≤ k → units_before ns j ≤ units_before ns k
base-le ns j k le = rw (take-take j k ns le) at (sum_by-take-le unit_count (take k ns) j)

pub unit_number-lt_base : (ns : List UnitCounts) (u : LinkUnit) → exists ns u ≡ true → unit_number ns u < units_before ns (u.object + 1)
unfolding unit_number
unit_number-lt_base ns u h = omega (arith, base_more ns u.object (object-lt ns u h), offset-lt (units_at ns u.object) u.unit h)

pub unit_number-lt : (ns : List UnitCounts) (u : LinkUnit) → exists ns u ≡ true → unit_number ns u < total_of ns
unit_number-lt ns u h = omega (arith, unit_number-lt_base ns u h, sum_by-take-le unit_count ns (u.object + 1))

pub base-le_number : (ns : List UnitCounts) (u : LinkUnit) → units_before ns u.object ≤ unit_number ns u
unfolding unit_number
base-le_number ns u = omega arith

abbrev pub placed_unit : ℕ → WasmGcUnit → LinkUnit
placed_unit a b = record { object = a; unit = b }

pub same_place : (u v : LinkUnit) → u.object ≡ v.object → u.unit ≡ v.unit → u ≡ v
same_place u v e f = ap (λ (a : ℕ). placed_unit a u.unit) e ∙ ap (λ (b : WasmGcUnit). placed_unit v.object b) f

pub same_offset : (ns : List UnitCounts) (u v : LinkUnit) → u.object ≡ v.object → unit_number ns u ≡ unit_number ns v → number_in_object (units_at ns u.object) u.unit ≡ number_in_object (units_at ns u.object) v.unit
unfolding unit_number
same_offset ns u v same e = let f = rw (← same) at e in omega arith

pub unit_number-apart : (ns : List UnitCounts) (u v : LinkUnit) → exists ns u ≡ true → u.object < v.object → unit_number ns u < unit_number ns v
unit_number-apart ns u v h less = omega (arith, unit_number-lt_base ns u h, base-le ns (u.object + 1) v.object (omega arith), base-le_number ns v)

pub unit_number-injective : (ns : List UnitCounts) (u v : LinkUnit) → exists ns u ≡ true → exists ns v ≡ true → unit_number ns u ≡ unit_number ns v → u ≡ v
unit_number-injective ns u v hu hv e =
    elim (cases_order u.object v.object) [
      | inl same ↦ same_place u v same (same_unit (units_at ns u.object) u.unit v.unit hu (rw (← same) at hv) (same_offset ns u v same e))
      | inr (inl less) ↦ absurd (omega (arith, unit_number-apart ns u v hu less))
      | inr (inr more) ↦ absurd (omega (arith, unit_number-apart ns v u hv more))
    ]

-- ---- how the numbers are made

-- the first i objects are numbered
pub record NumberedTo (ns : List UnitCounts) (i : ℕ) (counts : List UnitCounts) (bases : List ℕ) (total : ℕ) : Type 0 where
  pub taken : counts ≡ take i ns
  pub size : length bases ≡ i
  pub at : (k : ℕ) → k < i → get_or bases k 0 ≡ units_before ns k
  pub all : total ≡ units_before ns i
  pub fits : total < 2 ^ 64
  pub small : All IsSmall counts

pub NumberedTo-more : (ns : List UnitCounts) (i : ℕ) (counts : List UnitCounts) (bases : List ℕ) (total : ℕ) (n : UnitCounts) (next : ℕ) → NumberedTo ns i counts bases total → i < length ns → get_or ns i no_units ≡ n → next ≡ total + unit_count n → next < 2 ^ 64 → IsSmall n → NumberedTo ns (i + 1) (counts ++ n ∷ []) (bases ++ total ∷ []) next
NumberedTo-more ns i counts bases total n next t lt here sum fits small = record {
  taken = ap (λ (c : List UnitCounts). c ++ n ∷ []) t.taken ∙ (ap (λ (x : UnitCounts). take i ns ++ x ∷ []) (sym here) ∙ sym (take_more ns i no_units lt));
  size = length_push bases total ∙ ap (λ x. x + 1) t.size;
  at = below_more (λ k. get_or (bases ++ total ∷ []) k 0 ≡ units_before ns k) i
      (λ k below. get_or_append_left bases (total ∷ []) 0 k (omega (arith, t.size)) ∙ t.at k below)
      (get_or_push bases total 0 i t.size ∙ t.all);
  all = omega (arith, sum, t.all, base_more ns i lt, ap unit_count here);
  fits = fits;
  small = All-push IsSmall counts n t.small small;
}

pub NumberedTo-all : (ns : List UnitCounts) (i : ℕ) (counts : List UnitCounts) (bases : List ℕ) (total : ℕ) → NumberedTo ns i counts bases total → length ns ≡ i → AreBases counts bases total × (counts ≡ ns)
NumberedTo-all ns i counts bases total t e =
    let whole : take i ns ≡ ns = take_all i ns (omega arith) in
    let same : counts ≡ ns = t.taken ∙ whole in (
      rw same (record {
        size = t.size ∙ sym e;
        at = λ k lt. t.at k (omega arith);
        all = t.all ∙ ap (sum_by unit_count) whole;
        fits = t.fits;
        small = rw same at t.small;
      }),
      same,
    )

pub exists_from : (ns : List UnitCounts) (u : LinkUnit) (n : UnitCounts) → n ≡ units_at ns u.object → has_unit n u.unit ≡ true → exists ns u ≡ true
exists_from ns u n e h = rw (← e) h

-- the number of a unit that exists
pub number_found : (ns : List UnitCounts) (bases : List ℕ) (total : ℕ) (u : LinkUnit) (n : UnitCounts) (base offset : ℕ) → AreBases ns bases total → n ≡ units_at ns u.object → has_unit n u.unit ≡ true → base ≡ get_or bases u.object base → offset ≡ number_in_object n u.unit → base + offset ≡ unit_number ns u
unfolding unit_number
number_found ns bases total u n base offset t e h b o =
    let lt : u.object < length ns = object-lt ns u (exists_from ns u n e h) in
    let here : base ≡ units_before ns u.object = get_or_read bases u.object base (rw t.size lt) b 0 ∙ t.at u.object lt in
    omega (arith, here, o, ap (λ (x : UnitCounts). number_in_object x u.unit) e)

pub number_if_found : (ns : List UnitCounts) (u : LinkUnit) → exists ns u ≡ true → unit_number_if ns u ≡ Some (unit_number ns u)
number_if_found ns u h = cond-true (exists ns u) (Some (unit_number ns u)) None h

pub number_if_parts : (ns : List UnitCounts) (u : LinkUnit) (n : ℕ) → unit_number_if ns u ≡ Some n → (exists ns u ≡ true) × (unit_number ns u ≡ n)
number_if_parts ns u n e = cond_some (exists ns u) (unit_number ns u) n e

-- ---- an object has few units

pub counts_small : (o : Object) → HasFewItems MAX_LEN o → IsSmall (counts_of o)
counts_small o few =
    let functions : count_imports FuncKind o.imports ≤ length o.imports = count_by-le-length (λ (i : Imported). is_of_kind FuncKind i.entity) o.imports in
    let globals : count_imports GlobalKind o.imports ≤ length o.imports = count_by-le-length (λ (i : Imported). is_of_kind GlobalKind i.entity) o.imports in
    omega (arith, few.functions, few.globals, few.segments, few.imports)
