-- The place of a kept unit among those of its kind.
use Rattle.std.proofs.Common.{◌≡◌, ℕ, zero, suc, ◌+◌, ◌-◌, ◌<◌, ◌≤◌, Bool, true, false, cond, List, length, refl, get_or, take, ap, sym, ◌∙◌, arith, Some}
use Rattle.std.proofs.lemmas.Bool.{ltb-true, lt-ltb}
use Rattle.wl_reach.specs.Marks.{count_set}
use Rattle.std.proofs.lemmas.List.Sums.{sum_by_more}
use Rattle.wl_symbols.specs.declared.units.LinkUnit.{LinkUnit}
use Rattle.wl_symbols.specs.declared.units.UnitCounts.{UnitCounts}
use Rattle.wl_symbols.specs.declared.units.WasmGcUnit.{WasmGcUnit}
use Rattle.wl_symbols.specs.declared.units.WasmGcUnit.TheVariants.{DefinedFunction, DefinedGlobal, DataSegment, FunctionImport, GlobalImport}
use Rattle.wl_symbols.specs.Units.{exists, has_unit, unit_number, unit_number_if, total_of, unit_index, sibling_of, number_in_object, units_at}
use Rattle.wl_symbols.specs.Live.{Live, is_live, numbers_segments, live_below}
use Rattle.wl_symbols.proofs.NumberingLaws.{number_if_parts, unit_number-lt}

pub count_set_more : (marks : List Bool) (k : ℕ) → k < length marks → count_set (take (k + 1) marks) ≡ count_set (take k marks) + cond (get_or marks k false) 1 0
count_set_more marks k lt = sum_by_more (λ (b : Bool). cond b 1 0) marks k false lt

pub sibling-offset : (n : UnitCounts) (u : WasmGcUnit) (j : ℕ) → number_in_object n (sibling_of u j) + unit_index u ≡ number_in_object n u + j
sibling-offset n (DefinedFunction k) j = omega arith
sibling-offset n (DefinedGlobal k) j = omega arith
sibling-offset n (DataSegment k) j = omega arith
sibling-offset n (FunctionImport k) j = omega arith
sibling-offset n (GlobalImport k) j = omega arith

pub index-le_offset : (n : UnitCounts) (u : WasmGcUnit) → unit_index u ≤ number_in_object n u
index-le_offset n (DefinedFunction k) = omega arith
index-le_offset n (DefinedGlobal k) = omega arith
index-le_offset n (DataSegment k) = omega arith
index-le_offset n (FunctionImport k) = omega arith
index-le_offset n (GlobalImport k) = omega arith

pub sibling-number : (ns : List UnitCounts) (u : LinkUnit) (j : ℕ) → unit_number ns (record { object = u.object; unit = sibling_of u.unit j }) + unit_index u.unit ≡ unit_number ns u + j
unfolding unit_number
sibling-number ns u j = omega (arith, sibling-offset (units_at ns u.object) u.unit j)

pub index-le_number : (ns : List UnitCounts) (u : LinkUnit) → unit_index u.unit ≤ unit_number ns u
unfolding unit_number
index-le_number ns u = omega (arith, index-le_offset (units_at ns u.object) u.unit)

pub live_below-le : (live : Live) (u : LinkUnit) (k : ℕ) → live_below live u k ≤ k
live_below-le live u zero = omega arith
live_below-le live u (suc k) =
    let b : Bool = is_live live (record { object = u.object; unit = sibling_of u.unit k }) in
    let one : cond {A = ℕ} (is_live live (record { object = u.object; unit = sibling_of u.unit k })) 1 0 ≤ 1 = elim (is_live live (record { object = u.object; unit = sibling_of u.unit k })) as (λ t. cond {A = ℕ} t 1 0 ≤ 1) [ true ↦ omega arith | false ↦ omega arith ] in
    omega (arith, live_below-le live u k)

pub sibling-has : (n : UnitCounts) (u : WasmGcUnit) (j : ℕ) → has_unit n u ≡ true → j < unit_index u → has_unit n (sibling_of u j) ≡ true
sibling-has n (DefinedFunction k) j h lt = lt-ltb j n.functions (omega (arith, ltb-true k n.functions h))
sibling-has n (DefinedGlobal k) j h lt = lt-ltb j n.globals (omega (arith, ltb-true k n.globals h))
sibling-has n (DataSegment k) j h lt = lt-ltb j n.segments (omega (arith, ltb-true k n.segments h))
sibling-has n (FunctionImport k) j h lt = lt-ltb j n.function_imports (omega (arith, ltb-true k n.function_imports h))
sibling-has n (GlobalImport k) j h lt = lt-ltb j n.global_imports (omega (arith, ltb-true k n.global_imports h))

pub is_live-mark : (live : Live) (u : LinkUnit) → exists live.units u ≡ true → is_live live u ≡ get_or live.marks (unit_number live.units u) false
is_live-mark live u there = rw there refl

pub numbers_segments-mark : (live : Live) (u : LinkUnit) → exists live.units u ≡ true → numbers_segments live u ≡ get_or live.numbering (unit_number live.units u) false
numbers_segments-mark live u there = rw there refl

pub below_counts : (live : Live) (u : LinkUnit) (first : ℕ) → exists live.units u ≡ true → first + unit_index u.unit ≡ unit_number live.units u → unit_number live.units u < length live.marks → (k : ℕ) → k ≤ unit_index u.unit → live_below live u k + count_set (take first live.marks) ≡ count_set (take (first + k) live.marks)
below_counts live u first there e lt zero le = let same : first + 0 ≡ first = omega arith in rw same (omega arith)
below_counts live u first there e lt (suc k) le =
    let sibling : LinkUnit = record { object = u.object; unit = sibling_of u.unit k } in
    let here : unit_number live.units sibling ≡ first + k = omega (arith, sibling-number live.units u k) in
    let has : exists live.units sibling ≡ true = sibling-has (units_at live.units u.object) u.unit k there (omega arith) in
    let mark : is_live live sibling ≡ get_or live.marks (first + k) false = is_live-mark live sibling has ∙ ap (λ n. get_or live.marks n false) here in
    let next = count_set_more live.marks (first + k) (omega arith) in
    let turn : first + suc k ≡ first + k + 1 = omega arith in
    rw turn (omega (arith, below_counts live u first there e lt k (omega arith), next, ap (λ b. cond {A = ℕ} b 1 0) mark))

-- what is known of the number of a unit
pub record OrdinalFacts (live : Live) (u : LinkUnit) (number index : ℕ) : Type 0 where
  pub behind : index ≤ number
  pub within : number < length live.marks
  pub counted : live_below live u (unit_index u.unit) + count_set (take (number - index) live.marks) ≡ count_set (take number live.marks)
  pub small : live_below live u (unit_index u.unit) ≤ index

pub OrdinalFacts-from : (live : Live) (u : LinkUnit) (number index : ℕ) → length live.marks ≡ total_of live.units → Some number ≡ unit_number_if live.units u → index ≡ unit_index u.unit → OrdinalFacts live u number index
OrdinalFacts-from live u number index size found at =
    let p = number_if_parts live.units u number (sym found) in
    let behind : index ≤ number = omega (arith, index-le_number live.units u, p.1) in
    let within : unit_number live.units u < length live.marks = omega (arith, unit_number-lt live.units u p.0) in
    let whole : number - index + unit_index u.unit ≡ number = omega arith in
    record {
      behind = behind;
      within = omega (arith, p.1);
      counted = below_counts live u (number - index) p.0 (whole ∙ sym p.1) within (unit_index u.unit) (omega arith) ∙ ap (λ n. count_set (take n live.marks)) whole;
      small = omega (arith, live_below-le live u (unit_index u.unit));
    }
