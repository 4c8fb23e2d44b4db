-- The units without a step, by marks and by the certificate.
use Rattle.std.proofs.Common.{◌≡◌, ◌==◌, ◌&&◌, ℕ, suc, Bool, true, false, not, List, [], ◌∷◌, ◌++◌, length, get_or, replicate, filter, inl, inr, refl, ap, sym, ◌∙◌, subst, arith, Some, None, Contains, slice_get}
use Rattle.std.specs.List.{flat_map, list_any}
use Rattle.std.proofs.lemmas.Bool.{cases_Bool, false≢true, eq-eqb, eqb-true, and_parts, and_from, or_cases, false_from_ne_true, cond-true}
use Rattle.std.proofs.lemmas.List.{length-replicate}
use Rattle.std.proofs.lemmas.Option.{cond_some, slice_get-get_or}
use Rattle.wl_lists.proofs.Found.{any_of}
use Rattle.wl_lists.proofs.In.{at_is_in}
use Rattle.wl_reach.specs.Marks.{IsMarked}
use Rattle.wl_symbols.specs.Link.{Link}
use Rattle.wl_symbols.specs.Units.{units_of, exists, unit_number, unit_number_if, total_of}
use Rattle.wl_symbols.specs.declared.units.LinkUnit.{LinkUnit}
use Rattle.wl_symbols.specs.declared.units.UnitCounts.{UnitCounts}
use Rattle.wl_symbols.specs.declared.units.WasmGcUnit.{WasmGcUnit}
use Rattle.wl_symbols.specs.declared.units.WasmGcUnit.TheVariants.{DefinedFunction, DefinedGlobal, DataSegment, FunctionImport, GlobalImport}
use Rattle.wl_why.specs.Certificate.{step_unit, IsListed}
use Rattle.wl_why.specs.Marked.{with_marks}
use Rattle.wl_why.specs.Text.{is_same, is_listed, why_line, drop_line, drop_lines, step_number, certificate_text}
use Rattle.wl_why.specs.Units.{all_units}
use Rattle.wl_why.specs.declared.certificate.Step.{Step}
use Rattle.wl_why.proofs.Numbering.{Numbering, unit_here, step_here}
use Rattle.wl_why.proofs.MarkedLaws.{length-with_marks, with_marks_new, with_marks_cases, none_marked}
use Rattle.wl_why.proofs.UnitLaws.{all_at, length-all}

-- ---- the test for a step

pub is_same_true : (u v : WasmGcUnit) → is_same u v ≡ true → u ≡ v
is_same_true (DefinedFunction j) (DefinedFunction k) e = ap DefinedFunction (eqb-true j k e)
is_same_true (DefinedFunction j) (DefinedGlobal k) e = absurd (false≢true e)
is_same_true (DefinedFunction j) (DataSegment k) e = absurd (false≢true e)
is_same_true (DefinedFunction j) (FunctionImport k) e = absurd (false≢true e)
is_same_true (DefinedFunction j) (GlobalImport k) e = absurd (false≢true e)
is_same_true (DefinedGlobal j) (DefinedFunction k) e = absurd (false≢true e)
is_same_true (DefinedGlobal j) (DefinedGlobal k) e = ap DefinedGlobal (eqb-true j k e)
is_same_true (DefinedGlobal j) (DataSegment k) e = absurd (false≢true e)
is_same_true (DefinedGlobal j) (FunctionImport k) e = absurd (false≢true e)
is_same_true (DefinedGlobal j) (GlobalImport k) e = absurd (false≢true e)
is_same_true (DataSegment j) (DefinedFunction k) e = absurd (false≢true e)
is_same_true (DataSegment j) (DefinedGlobal k) e = absurd (false≢true e)
is_same_true (DataSegment j) (DataSegment k) e = ap DataSegment (eqb-true j k e)
is_same_true (DataSegment j) (FunctionImport k) e = absurd (false≢true e)
is_same_true (DataSegment j) (GlobalImport k) e = absurd (false≢true e)
is_same_true (FunctionImport j) (DefinedFunction k) e = absurd (false≢true e)
is_same_true (FunctionImport j) (DefinedGlobal k) e = absurd (false≢true e)
is_same_true (FunctionImport j) (DataSegment k) e = absurd (false≢true e)
is_same_true (FunctionImport j) (FunctionImport k) e = ap FunctionImport (eqb-true j k e)
is_same_true (FunctionImport j) (GlobalImport k) e = absurd (false≢true e)
is_same_true (GlobalImport j) (DefinedFunction k) e = absurd (false≢true e)
is_same_true (GlobalImport j) (DefinedGlobal k) e = absurd (false≢true e)
is_same_true (GlobalImport j) (DataSegment k) e = absurd (false≢true e)
is_same_true (GlobalImport j) (FunctionImport k) e = absurd (false≢true e)
is_same_true (GlobalImport j) (GlobalImport k) e = ap GlobalImport (eqb-true j k e)

pub is_same-own : (u : WasmGcUnit) → is_same u u ≡ true
is_same-own (DefinedFunction k) = eq-eqb k k refl
is_same-own (DefinedGlobal k) = eq-eqb k k refl
is_same-own (DataSegment k) = eq-eqb k k refl
is_same-own (FunctionImport k) = eq-eqb k k refl
is_same-own (GlobalImport k) = eq-eqb k k refl

-- the step is of the unit
abbrev pub is_step_of : LinkUnit → Step → Bool
is_step_of u s = (s.object == u.object) && is_same s.unit u.unit

pub placed_unit : ℕ → WasmGcUnit → LinkUnit
placed_unit a b = record { object = a; unit = b }

pub same_place : (u v : LinkUnit) → u.object ≡ v.object → u.unit ≡ v.unit → u ≡ v
unfolding placed_unit
same_place u v e f =
    let h : placed_unit u.object u.unit ≡ placed_unit v.object v.unit = ap (λ (a : ℕ). placed_unit a u.unit) e ∙ ap (λ (b : WasmGcUnit). placed_unit v.object b) f in h

pub step_of_true : (u : LinkUnit) (s : Step) → is_step_of u s ≡ true → step_unit s ≡ u
step_of_true u s e =
    let p = and_parts (s.object == u.object) (is_same s.unit u.unit) e in
    same_place (step_unit s) u (eqb-true s.object u.object p.0) (is_same_true s.unit u.unit p.1)

pub step_of_is : (u : LinkUnit) (s : Step) → step_unit s ≡ u → is_step_of u s ≡ true
step_of_is u s e = rw (← e) (and_from (s.object == s.object) (is_same s.unit s.unit) (eq-eqb s.object s.object refl) (is_same-own s.unit))

pub any_true : {X : Type 0} (p : X → Bool) (xs : List X) → list_any p xs ≡ true → (k : ℕ) × (x : X) × (slice_get xs k ≡ Some x) × (p x ≡ true)
any_true p [] e = absurd (false≢true e)
any_true p (x ∷ xs) e =
    elim (or_cases (p x) (list_any p xs) e) [
      | inl here ↦ (0, x, refl, here)
      | inr there ↦ let h = any_true p xs there in (suc h.0, h.1, h.2, h.3)
    ]

pub is_listed_true : (steps : List Step) (u : LinkUnit) → is_listed steps u ≡ true → IsListed steps u
is_listed_true steps u e =
    let h = any_true (is_step_of u) steps e in
    (h.0, unit_here steps h.0 h.1 h.2 ∙ ap Some (step_of_true u h.1 h.3))

pub listed_is_true : (steps : List Step) (u : LinkUnit) → IsListed steps u → is_listed steps u ≡ true
listed_is_true steps u m =
    let s = step_here steps m.0 u m.1 in
    any_of (is_step_of u) steps s.0 (at_is_in steps m.0 s.0 s.1) (step_of_is u s.0 s.2)

-- ---- the marks

pub contains_at : {X : Type 0} (xs : List X) (x : X) → Contains xs x → (k : ℕ) × (slice_get xs k ≡ Some x)
contains_at xs x m = (m.0, slice_get-get_or xs m.0 x m.1 ∙ ap Some m.2)

pub mark_listed : Numbering → (ns : List UnitCounts) (steps : List Step) (u : LinkUnit) → exists ns u ≡ true → IsMarked (with_marks (step_number ns) (replicate (total_of ns) false) steps) (unit_number ns u) → IsListed steps u
mark_listed numbering ns steps u there m =
    elim (with_marks_cases (step_number ns) (replicate (total_of ns) false) steps (unit_number ns u) m) [
      | inl none ↦ absurd (none_marked (total_of ns) (unit_number ns u) none)
      | inr h ↦
          let p = cond_some (exists ns (step_unit h.0)) (unit_number ns (step_unit h.0)) (unit_number ns u) h.2 in
          let same : step_unit h.0 ≡ u = numbering.own ns (step_unit h.0) u p.0 there p.1 in
          let k = contains_at steps h.0 h.1 in
          (k.0, unit_here steps k.0 h.0 k.1 ∙ ap Some same)
    ]

pub listed_mark : Numbering → (ns : List UnitCounts) (steps : List Step) (u : LinkUnit) → exists ns u ≡ true → IsListed steps u → IsMarked (with_marks (step_number ns) (replicate (total_of ns) false) steps) (unit_number ns u)
listed_mark numbering ns steps u there m =
    let s = step_here steps m.0 u m.1 in
    let number : step_number ns s.0 ≡ Some (unit_number ns u) = ap (unit_number_if ns) s.2 ∙ cond-true (exists ns u) (Some (unit_number ns u)) None there in
    with_marks_new (step_number ns) (replicate (total_of ns) false) steps (unit_number ns u) s.0 (at_is_in steps m.0 s.0 s.1) number (rw length-replicate (numbering.below ns u there))

pub mark_is : Numbering → (ns : List UnitCounts) (steps : List Step) (k : ℕ) (u : LinkUnit) → slice_get (all_units ns) k ≡ Some u → get_or (with_marks (step_number ns) (replicate (total_of ns) false) steps) k false ≡ is_listed steps u
mark_is numbering ns steps k u at =
    let marks : List Bool = with_marks (step_number ns) (replicate (total_of ns) false) steps in
    let h = all_at ns k u at in
    elim (cases_Bool (is_listed steps u)) [
      | inl on ↦ subst (λ (n : ℕ). get_or marks n false ≡ true) h.number (listed_mark numbering ns steps u h.there (is_listed_true steps u on)) ∙ sym on
      | inr off ↦
          false_from_ne_true (get_or marks k false)
          (λ m. false≢true (sym off ∙ listed_is_true steps u (mark_listed numbering ns steps u h.there (subst (λ (n : ℕ). get_or marks n false ≡ true) (sym h.number) m))))
          ∙ sym off
    ]

-- ---- the lines

pub drops_are : (p : LinkUnit → Bool) (units : List LinkUnit) (marks : List Bool) → length marks ≡ length units → ((k : ℕ) (u : LinkUnit) → slice_get units k ≡ Some u → get_or marks k false ≡ p u) → drop_lines units marks ≡ flat_map drop_line (filter (λ u. not (p u)) units)
drops_are p [] marks size each = refl
drops_are p (u ∷ units) [] size each = absurd (omega (arith, size))
drops_are p (u ∷ units) (m ∷ marks) size each =
    let first : m ≡ p u = each 0 u refl in
    let rest : drop_lines units marks ≡ flat_map drop_line (filter (λ v. not (p v)) units) = drops_are p units marks (omega (arith, size)) (λ k v at. each (suc k) v at) in
    elim (cases_Bool (p u)) [
      | inl on ↦ rw (first ∙ on, on) rest
      | inr off ↦ rw (first ∙ off, off) (ap (λ (l : List ℕ). drop_line u ++ l) rest)
    ]

pub dropped_are : Numbering → (ns : List UnitCounts) (steps : List Step) → drop_lines (all_units ns) (with_marks (step_number ns) (replicate (total_of ns) false) steps) ≡ flat_map drop_line (filter (λ u. not (is_listed steps u)) (all_units ns))
dropped_are numbering ns steps =
    drops_are (is_listed steps) (all_units ns) (with_marks (step_number ns) (replicate (total_of ns) false) steps)
    (length-with_marks (step_number ns) (replicate (total_of ns) false) steps ∙ (length-replicate (total_of ns) false ∙ sym (length-all ns)))
    (λ k u at. mark_is numbering ns steps k u at)

-- the marks of the units that are listed
abbrev pub listed_marks : List UnitCounts → List Step → List Bool
listed_marks ns steps = with_marks (step_number ns) (replicate (total_of ns) false) steps

pub length-listed_marks : (ns : List UnitCounts) (steps : List Step) → length (listed_marks ns steps) ≡ length (all_units ns)
length-listed_marks ns steps = length-with_marks (step_number ns) (replicate (total_of ns) false) steps ∙ (length-replicate (total_of ns) false ∙ sym (length-all ns))

-- the text, part by part
pub text_is : (link : Link) (steps : List Step) (collects : Bool) (first why whole drops : List ℕ) → collects ≡ link.args.gc_sections → first ≡ [] → why ≡ first ++ flat_map (why_line collects steps) steps → drops ≡ flat_map drop_line (filter (λ u. not (is_listed steps u)) (all_units (units_of link.objects))) → whole ≡ why ++ drops → whole ≡ certificate_text link steps
text_is link steps collects first why whole drops gc none lines dropped all =
    all
    ∙ (ap (λ (d : List ℕ). why ++ d) dropped
    ∙ ap (λ (w : List ℕ). w ++ flat_map drop_line (filter (λ u. not (is_listed steps u)) (all_units (units_of link.objects))))
    (lines ∙ (ap (λ (f : List ℕ). f ++ flat_map (why_line collects steps) steps) none ∙ ap (λ (b : Bool). flat_map (why_line b steps) steps) gc)))
