-- The list of all units has each unit at its number.
use Rattle.std.proofs.Common.{append_assoc, ◌≡◌, ℕ, ◌+◌, ◌<◌, true, List, [], ◌∷◌, ◌++◌, length, get_or, drop, inl, inr, refl, ap, sym, ◌∙◌, subst, arith, Some, slice_get, sum_by}
use Rattle.std.proofs.lemmas.Bool.{lt-ltb, cases_lt}
use Rattle.std.proofs.lemmas.Option.{slice_get_within, get_or_from_slice_get, slice_get-get_or}
use Rattle.std.proofs.lemmas.List.{length-append, drop_more, drop_all}
use Rattle.std.proofs.lemmas.List.FromFn.{length-map-range_with_len, get_or-map-range_with_len, map-range_with_len_more}
use Rattle.std.proofs.lemmas.List.Sums.{sum_by_more, sum_by-cons}
use Rattle.wl_lists.proofs.Places.{append_split}
use Rattle.wl_lists.specs.Rows.{by_number}
use Rattle.wl_symbols.specs.Units.{has_unit, number_in_object, unit_count, units_at, no_units, exists, units_before, total_of, unit_number, sibling_of}
use Rattle.wl_symbols.specs.declared.units.LinkUnit.{LinkUnit}
use Rattle.wl_symbols.specs.declared.units.UnitCounts.{UnitCounts}
use Rattle.wl_symbols.specs.declared.units.WasmGcUnit.{WasmGcUnit}
use Rattle.wl_symbols.specs.declared.units.WasmGcUnit.TheVariants.{DefinedFunction, DefinedGlobal, DataSegment, FunctionImport, GlobalImport}
use Rattle.wl_why.specs.Units.{unit_of_kind, kind_units, object_units, all_units}
use Rattle.wl_why.proofs.Numbering.{Numbering}

-- ---- one object

pub kind_at : (object : ℕ) (kind : WasmGcUnit) (count k : ℕ) (u : LinkUnit) → slice_get (kind_units object kind count) k ≡ Some u → (k < count) × (unit_of_kind object kind k ≡ u)
kind_at object kind count k u e =
    let lt : k < count = rw length-map-range_with_len at (slice_get_within (kind_units object kind count) k u e) in
    (lt, sym (get_or-map-range_with_len (unit_of_kind object kind) 0 count k k u lt (omega arith)) ∙ get_or_from_slice_get (kind_units object kind count) k u u e)

pub length-kind : (object : ℕ) (kind : WasmGcUnit) (count : ℕ) → length (kind_units object kind count) ≡ count
length-kind object kind count = length-map-range_with_len (unit_of_kind object kind) 0 count

-- one unit more
pub push_kind_unit : (xs ys zs : List LinkUnit) (object : ℕ) (kind : WasmGcUnit) (k : ℕ) (u : WasmGcUnit) → ys ≡ xs ++ kind_units object kind k → u ≡ sibling_of kind k → zs ≡ ys ++ record { object = object; unit = u } ∷ [] → zs ≡ xs ++ kind_units object kind (k + 1)
push_kind_unit xs ys zs object kind k u before is after =
    let more : kind_units object kind (k + 1) ≡ kind_units object kind k ++ unit_of_kind object kind k ∷ [] = map-range_with_len_more (unit_of_kind object kind) 0 k k (omega arith) in
    after
    ∙ (ap (λ (w : WasmGcUnit). ys ++ record { object = object; unit = w } ∷ []) is
    ∙ (ap (λ (l : List LinkUnit). l ++ unit_of_kind object kind k ∷ []) before
    ∙ (append_assoc xs (kind_units object kind k) (unit_of_kind object kind k ∷ []) ∙ ap (λ (l : List LinkUnit). xs ++ l) (sym more))))

-- the unit is the object's of that number
pub record InObject (o : ℕ) (n : UnitCounts) (k : ℕ) (u : LinkUnit) : Type 0 where
  pub object : u.object ≡ o
  pub there : has_unit n u.unit ≡ true
  pub number : number_in_object n u.unit ≡ k

pub in_object : (object : ℕ) (n : UnitCounts) (k : ℕ) (v u : LinkUnit) → v ≡ u → InObject object n k v → InObject object n k u
in_object object n k v u e h = subst (InObject object n k) e h

pub object_at : (object : ℕ) (n : UnitCounts) (k : ℕ) (u : LinkUnit) → slice_get (object_units object n) k ≡ Some u → InObject object n k u
object_at object n k u e =
    let a : List LinkUnit = kind_units object (DefinedFunction 0) n.functions in
    let b : List LinkUnit = kind_units object (DefinedGlobal 0) n.globals in
    let c : List LinkUnit = kind_units object (DataSegment 0) n.segments in
    let d : List LinkUnit = kind_units object (FunctionImport 0) n.function_imports in
    let f : List LinkUnit = kind_units object (GlobalImport 0) n.global_imports in
    let la : length a ≡ n.functions = length-kind object (DefinedFunction 0) n.functions in
    let lb : length b ≡ n.globals = length-kind object (DefinedGlobal 0) n.globals in
    let lc : length c ≡ n.segments = length-kind object (DataSegment 0) n.segments in
    let ld : length d ≡ n.function_imports = length-kind object (FunctionImport 0) n.function_imports in
    elim (append_split a (b ++ (c ++ (d ++ f))) k u e) [
      | inl at ↦
          let q = kind_at object (DefinedFunction 0) n.functions k u at in
          in_object object n k (unit_of_kind object (DefinedFunction 0) k) u q.1 (record { object = refl; there = lt-ltb k n.functions q.0; number = omega arith })
      | inr p ↦
          elim (append_split b (c ++ (d ++ f)) p.0 u p.2) [
            | inl at ↦
                let q = kind_at object (DefinedGlobal 0) n.globals p.0 u at in
                in_object object n k (unit_of_kind object (DefinedGlobal 0) p.0) u q.1 (record { object = refl; there = lt-ltb p.0 n.globals q.0; number = omega (arith, p.1, la) })
            | inr p1 ↦
                elim (append_split c (d ++ f) p1.0 u p1.2) [
                  | inl at ↦
                      let q = kind_at object (DataSegment 0) n.segments p1.0 u at in
                      in_object object n k (unit_of_kind object (DataSegment 0) p1.0) u q.1 (record { object = refl; there = lt-ltb p1.0 n.segments q.0; number = omega (arith, p.1, p1.1, la, lb) })
                  | inr p2 ↦
                      elim (append_split d f p2.0 u p2.2) [
                        | inl at ↦
                            let q = kind_at object (FunctionImport 0) n.function_imports p2.0 u at in
                            in_object object n k (unit_of_kind object (FunctionImport 0) p2.0) u q.1 (record { object = refl; there = lt-ltb p2.0 n.function_imports q.0; number = omega (arith, p.1, p1.1, p2.1, la, lb, lc) })
                        | inr p3 ↦
                            let q = kind_at object (GlobalImport 0) n.global_imports p3.0 u p3.2 in
                            in_object object n k (unit_of_kind object (GlobalImport 0) p3.0) u q.1 (record { object = refl; there = lt-ltb p3.0 n.global_imports q.0; number = omega (arith, p.1, p1.1, p2.1, p3.1, la, lb, lc, ld) })
                      ]
                ]
          ]
    ]

pub length-object : (object : ℕ) (n : UnitCounts) → length (object_units object n) ≡ unit_count n
length-object object n = simp length-append (simp length-map-range_with_len (omega arith))

-- ---- all objects

-- the unit exists, and this is its number
pub record HasNumber (ns : List UnitCounts) (n : ℕ) (u : LinkUnit) : Type 0 where
  pub there : exists ns u ≡ true
  pub number : unit_number ns u ≡ n

pub in_all : (ns : List UnitCounts) (object : ℕ) (n : UnitCounts) (k : ℕ) (u : LinkUnit) → units_at ns object ≡ n → InObject object n k u → HasNumber ns (units_before ns object + k) u
unfolding unit_number
in_all ns object n k u at h =
    let counts : units_at ns u.object ≡ n = ap (units_at ns) h.object ∙ at in
    record {
      there = rw counts h.there;
      number = ap (λ (o : ℕ). units_before ns o + number_in_object (units_at ns o) u.unit) h.object ∙ rw at (ap (λ (j : ℕ). units_before ns object + j) h.number);
    }

pub from_at : (ns : List UnitCounts) (object : ℕ) (rest : List UnitCounts) (k : ℕ) (u : LinkUnit) → drop object ns ≡ rest → slice_get (by_number object_units object rest) k ≡ Some u → HasNumber ns (units_before ns object + k) u
from_at ns object [] k u is e = absurd (cc)
from_at ns object (n ∷ rest) k u is e =
    elim (cases_lt object (length ns)) [
      | inr le ↦ let none : n ∷ rest ≡ [] = sym is ∙ drop_all object ns le in absurd (cc)
      | inl lt ↦
          let more : get_or ns object no_units ∷ drop (object + 1) ns ≡ n ∷ rest = sym (drop_more ns object no_units lt) ∙ is in
          let at : units_at ns object ≡ n = cc in
          let further : drop (object + 1) ns ≡ rest = cc in
          elim (append_split (object_units object n) (by_number object_units (object + 1) rest) k u e) [
            | inl front ↦ in_all ns object n k u at (object_at object n k u front)
            | inr p ↦
                let h = from_at ns (object + 1) rest p.0 u further p.2 in
                let before : units_before ns (object + 1) ≡ units_before ns object + unit_count (units_at ns object) = sum_by_more unit_count ns object no_units lt in
                let same : units_before ns (object + 1) + p.0 ≡ units_before ns object + k =
                omega (arith, before, ap unit_count at, length-object object n, p.1) in
                record { there = h.there; number = h.number ∙ same }
          ]
    ]

pub all_at : (ns : List UnitCounts) (k : ℕ) (u : LinkUnit) → slice_get (all_units ns) k ≡ Some u → HasNumber ns k u
all_at ns k u e =
    let h = from_at ns 0 ns k u refl e in
    record { there = h.there; number = h.number ∙ omega arith }

pub length-from : (object : ℕ) (ns : List UnitCounts) → length (by_number object_units object ns) ≡ sum_by unit_count ns
length-from object [] = refl
length-from object (n ∷ ns) =
    omega (arith, length-append (object_units object n) (by_number object_units (object + 1) ns), length-object object n, length-from (object + 1) ns, sum_by-cons unit_count n ns)

pub length-all : (ns : List UnitCounts) → length (all_units ns) ≡ total_of ns
length-all ns = length-from 0 ns

-- a unit that exists stands at its number
pub at_all : Numbering → (ns : List UnitCounts) (u : LinkUnit) → exists ns u ≡ true → slice_get (all_units ns) (unit_number ns u) ≡ Some u
at_all numbering ns u there =
    let lt : unit_number ns u < length (all_units ns) = rw length-all (numbering.below ns u there) in
    let v : LinkUnit = get_or (all_units ns) (unit_number ns u) u in
    let here : slice_get (all_units ns) (unit_number ns u) ≡ Some v = slice_get-get_or (all_units ns) (unit_number ns u) u lt in
    let h = all_at ns (unit_number ns u) v here in
    here ∙ ap Some (numbering.own ns v u h.there there h.number)
