-- A link has one live set: each number is that of a unit, so that the marks are one list.
use Rattle.std.proofs.Common.{◌≡◌, ℕ, zero, suc, ◌+◌, ◌-◌, ◌<◌, ◌≤◌, Bool, true, false, List, [], ◌∷◌, length, get_or, refl, ap, sym, ◌∙◌, subst, arith, inl, inr, sum_by, add-one}
use Rattle.std.proofs.lemmas.Bool.{cases_lt, lt-ltb}
use Rattle.std.proofs.lemmas.List.{take_all}
use Rattle.wl_symbols.specs.Link.{Link}
use Rattle.wl_symbols.specs.Units.{unit_index, count_of_kind, has_unit, number_in_object, unit_count, units_at, exists, units_before, total_of, unit_number}
use Rattle.wl_symbols.specs.Live.{Live, is_live, IsNumberingOf, IsLiveOf}
use Rattle.wl_symbols.specs.declared.units.WasmGcUnit.{WasmGcUnit}
use Rattle.wl_symbols.specs.declared.units.WasmGcUnit.TheVariants.{DefinedFunction, DefinedGlobal, DataSegment, FunctionImport, GlobalImport}
use Rattle.wl_symbols.specs.declared.units.LinkUnit.{LinkUnit}
use Rattle.wl_symbols.specs.declared.units.UnitCounts.{UnitCounts}
use Rattle.wl_symbols.proofs.NumberingLaws.{base_more}
use Rattle.wl_symbols.proofs.KeptLaws.{live_one}

-- ---- each number is that of a unit

-- a unit of an object, by its number there
record HasNumber (n : UnitCounts) (k : ℕ) : Type 0 where
  unit : WasmGcUnit
  there : has_unit n unit ≡ true
  number : number_in_object n unit ≡ k

unit_from : (n : UnitCounts) (unit : WasmGcUnit) (k : ℕ) → unit_index unit < count_of_kind n unit → number_in_object n unit ≡ k → HasNumber n k
unit_from n unit k lt is = record { unit = unit; there = lt-ltb (unit_index unit) (count_of_kind n unit) lt; number = is }

unit_of_number : (n : UnitCounts) (k : ℕ) → k < unit_count n → HasNumber n k
unit_of_number n k lt =
    let globals = n.functions in
    let segments = globals + n.globals in
    let slots = segments + n.segments in
    let others = slots + n.function_imports in
    elim (cases_lt k globals) [
      | inl low ↦ unit_from n (DefinedFunction k) k low (omega arith)
      | inr high ↦ elim (cases_lt k segments) [
        | inl low ↦ unit_from n (DefinedGlobal (k - globals)) k (omega (arith, low, high)) (omega (arith, high))
        | inr high' ↦ elim (cases_lt k slots) [
          | inl low ↦ unit_from n (DataSegment (k - segments)) k (omega (arith, low, high')) (omega (arith, high'))
          | inr high'' ↦ elim (cases_lt k others) [
            | inl low ↦ unit_from n (FunctionImport (k - slots)) k (omega (arith, low, high'')) (omega (arith, high''))
            | inr high''' ↦ unit_from n (GlobalImport (k - others)) k (omega (arith, lt, high''')) (omega (arith, high'''))
          ]
        ]
      ]
    ]

-- a unit of the objects, by its number
pub record HasLinkNumber (ns : List UnitCounts) (k : ℕ) : Type 0 where
  pub unit : LinkUnit
  pub there : exists ns unit ≡ true
  pub number : unit_number ns unit ≡ k

numbered_before : (ns : List UnitCounts) (n k : ℕ) → n ≤ length ns → k < units_before ns n → HasLinkNumber ns k
unfolding unit_number
numbered_before ns zero k le lt = absurd (omega arith)
numbered_before ns (suc n) k le lt =
    let more : units_before ns (suc n) ≡ units_before ns n + unit_count (units_at ns n) = rw add-one at (base_more ns n (omega (arith, le))) in
    elim (cases_lt k (units_before ns n)) [
      | inl low ↦ numbered_before ns n k (omega (arith, le)) low
      | inr high ↦
          let here = unit_of_number (units_at ns n) (k - units_before ns n) (omega (arith, lt, more, high)) in
          record { unit = record { object = n; unit = here.unit }; there = here.there; number = omega (arith, here.number, high) }
    ]

pub unit_numbered : (ns : List UnitCounts) (k : ℕ) → k < total_of ns → HasLinkNumber ns k
unit_numbered ns k lt = numbered_before ns (length ns) k (omega arith) (omega (arith, lt, ap (sum_by unit_count) (take_all (length ns) ns (omega arith))))

-- ---- the marks

same_marks : (xs ys : List Bool) → length xs ≡ length ys → ((k : ℕ) → k < length xs → get_or xs k false ≡ get_or ys k false) → xs ≡ ys
same_marks [] [] len each = refl
same_marks [] (y ∷ ys) len each = absurd (omega (arith, len))
same_marks (x ∷ xs) [] len each = absurd (omega (arith, len))
same_marks (x ∷ xs) (y ∷ ys) len each =
    let first : x ≡ y = each 0 (omega arith) in
    let rest = same_marks xs ys (omega (arith, len)) (λ k lt. each (suc k) (omega (arith, lt))) in
    ap (λ (z : Bool). z ∷ xs) first ∙ ap (λ (zs : List Bool). y ∷ zs) rest

same_Bool : (a b : Bool) → (a ≡ true → b ≡ true) → (b ≡ true → a ≡ true) → a ≡ b
same_Bool true b f g = sym (f refl)
same_Bool false true f g = absurd (let no = g refl in cc)
same_Bool false false f g = refl

-- marks that are set at the same units are the same
numbering_one : (link : Link) (ns : List UnitCounts) (xs ys : List Bool) → IsNumberingOf link ns xs → IsNumberingOf link ns ys → xs ≡ ys
numbering_one link ns xs ys a b = same_marks xs ys (a.sized ∙ sym b.sized) same_at
  where
    same_at : (k : ℕ) → k < length xs → get_or xs k false ≡ get_or ys k false
    same_at k lt =
        let n = unit_numbered ns k (omega (arith, lt, a.sized)) in
        let to : (zs ws : List Bool) → IsNumberingOf link ns zs → IsNumberingOf link ns ws → get_or zs k false ≡ true → get_or ws k false ≡ true =
        λ zs ws z w on.
        let here : get_or zs (unit_number ns n.unit) false ≡ true = ap (λ (j : ℕ). get_or zs j false) n.number ∙ on in
        ap (λ (j : ℕ). get_or ws j false) (sym n.number) ∙ w.every n.unit n.there (z.only n.unit n.there here) in
        same_Bool (get_or xs k false) (get_or ys k false) (to xs ys a b) (to ys xs b a)

mark_of : (live : Live) (u : LinkUnit) → exists live.units u ≡ true → is_live live u ≡ get_or live.marks (unit_number live.units u) false
mark_of live u there = rw there refl

make_live : List UnitCounts → List Bool → List Bool → Live
make_live units marks numbering = record { units = units; marks = marks; numbering = numbering }

pub live_sets_one : (link : Link) (a b : Live) → IsLiveOf link a → IsLiveOf link b → a ≡ b
unfolding make_live
live_sets_one link a b la lb =
    let units : a.units ≡ b.units = la.units ∙ sym lb.units in
    let len : length a.marks ≡ length b.marks = la.sized ∙ ap total_of units ∙ sym lb.sized in
    let marks : a.marks ≡ b.marks = same_marks a.marks b.marks len (λ k lt. same_at k lt units) in
    let numbering : a.numbering ≡ b.numbering =
    numbering_one link b.units a.numbering b.numbering (subst (λ (us : List UnitCounts). IsNumberingOf link us a.numbering) units la.numbering) lb.numbering in
    let h : make_live a.units a.marks a.numbering ≡ make_live b.units b.marks b.numbering =
    ap (λ (us : List UnitCounts). make_live us a.marks a.numbering) units ∙ (ap (λ (ms : List Bool). make_live b.units ms a.numbering) marks ∙ ap (make_live b.units b.marks) numbering) in h
  where
    same_at : (k : ℕ) → k < length a.marks → a.units ≡ b.units → get_or a.marks k false ≡ get_or b.marks k false
    same_at k lt units =
        let n = unit_numbered a.units k (omega (arith, lt, la.sized)) in
        let there : exists b.units n.unit ≡ true = subst (λ (us : List UnitCounts). exists us n.unit ≡ true) units n.there in
        let number : unit_number b.units n.unit ≡ k = subst (λ (us : List UnitCounts). unit_number us n.unit ≡ k) units n.number in
        let left : is_live a n.unit ≡ get_or a.marks k false = mark_of a n.unit n.there ∙ ap (λ (j : ℕ). get_or a.marks j false) n.number in
        let right : is_live b n.unit ≡ get_or b.marks k false = mark_of b n.unit there ∙ ap (λ (j : ℕ). get_or b.marks j false) number in
        sym left ∙ live_one link a b n.unit la lb ∙ right
