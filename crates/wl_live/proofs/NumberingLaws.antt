-- Exactly those functions are marked whose bodies number segments.
use Rattle.std.proofs.Common.{◌≡◌, ◌⊎◌, ℕ, suc, ◌+◌, ◌<◌, Bool, true, false, List, [], ◌∷◌, ◌++◌, map, inl, inr, refl, ap, sym, ◌∙◌, subst, arith, Option, Some, None, Contains, replicate, get_or, drop, drop-cons, length}
use Rattle.std.proofs.lemmas.Bool.{cases_eq, true≢false}
use Rattle.std.proofs.lemmas.List.{get_or-set_same, get_or-set_other, length-set, get_or-replicate, length-replicate}
use Rattle.wl_lists.proofs.In.{Contains-none, Contains-here, Contains-there, Contains-map, Contains-cons_cases}
use Rattle.wl_symbols.specs.Link.{Link}
use Rattle.wl_symbols.specs.Live.{IsNumberingOf}
use Rattle.wl_symbols.specs.References.{NumbersSegments}
use Rattle.wl_symbols.specs.Units.{exists, unit_number, unit_number_if, total_of}
use Rattle.wl_symbols.specs.declared.units.LinkUnit.{LinkUnit}
use Rattle.wl_symbols.specs.declared.units.UnitCounts.{UnitCounts}
use Rattle.wl_symbols.specs.declared.units.WasmGcUnit.TheVariants.{DataSegment}
use Rattle.wl_symbols.proofs.KeptLaws.{OneNumbers}
use Rattle.wl_symbols.proofs.NumberingLaws.{unit_number-lt, unit_number-injective, number_if_found, number_if_parts}
use Rattle.wl_live.specs.Facts.{Facts, AreFacts, AreAllFacts}
use Rattle.wl_live.specs.Numbering.{numbering_unit, numbering_units, numbering_from, with_mark, with_units}
use Rattle.wl_live.specs.Table.{Reference, segment_reference}
use Rattle.wl_lists.proofs.Beside.{zip_left, zip_right}
use Rattle.wl_live.proofs.JoinLaws.{in_joined, joined_in, in_map}
use Rattle.wl_live.proofs.ReferenceLaws.{refers_to, by_number, number_listed}

-- ---- marks

with_mark-len : (marks : List Bool) (number : Option ℕ) → length (with_mark marks number) ≡ length marks
with_mark-len marks None = refl
with_mark-len marks (Some n) = length-set marks n true

pub with_units-len : (ns : List UnitCounts) (marks : List Bool) (us : List LinkUnit) → length (with_units ns marks us) ≡ length marks
with_units-len ns marks [] = refl
with_units-len ns marks (u ∷ us) = with_units-len ns (with_mark marks (unit_number_if ns u)) us ∙ with_mark-len marks (unit_number_if ns u)

pub with_units-append : (ns : List UnitCounts) (marks : List Bool) (us vs : List LinkUnit) → with_units ns marks (us ++ vs) ≡ with_units ns (with_units ns marks us) vs
with_units-append ns marks [] vs = refl
with_units-append ns marks (u ∷ us) vs = with_units-append ns (with_mark marks (unit_number_if ns u)) us vs

-- the units of one object more
pub numbering_more : (ns : List UnitCounts) (old new : List Bool) (facts : List Facts) (k : ℕ) (f : Facts) → k < length facts → get_or facts k f ≡ f → new ≡ with_units ns old (numbering_units k f.segments) → with_units ns new (numbering_from (k + 1) (drop (k + 1) facts)) ≡ with_units ns old (numbering_from k (drop k facts))
numbering_more ns old new facts k f lt at is =
    let one : suc k ≡ k + 1 = omega arith in
    let next : drop k facts ≡ f ∷ drop (k + 1) facts = drop-cons facts k f lt ∙ (ap (λ (x : Facts). x ∷ drop (suc k) facts) at ∙ ap (λ (m : ℕ). f ∷ drop m facts) one) in
    let rest : List LinkUnit = numbering_from (k + 1) (drop (k + 1) facts) in
    ap (λ (m : List Bool). with_units ns m rest) is
    ∙ (sym (with_units-append ns old (numbering_units k f.segments) rest) ∙ ap (λ (l : List Facts). with_units ns old (numbering_from k l)) (sym next))

-- what is set stays
with_mark-stays : (marks : List Bool) (number : Option ℕ) (k : ℕ) → k < length marks → get_or marks k false ≡ true → get_or (with_mark marks number) k false ≡ true
with_mark-stays marks None k lt on = on
with_mark-stays marks (Some n) k lt on =
    elim (cases_eq k n) [
      | inl e ↦ rw e (get_or-set_same marks n true false (omega (arith, e, lt)))
      | inr ne ↦ get_or-set_other marks n k true false ne ∙ on
    ]

with_units-stays : (ns : List UnitCounts) (marks : List Bool) (us : List LinkUnit) (k : ℕ) → k < length marks → get_or marks k false ≡ true → get_or (with_units ns marks us) k false ≡ true
with_units-stays ns marks [] k lt on = on
with_units-stays ns marks (u ∷ us) k lt on =
    with_units-stays ns (with_mark marks (unit_number_if ns u)) us k (omega (arith, lt, with_mark-len marks (unit_number_if ns u)))
    (with_mark-stays marks (unit_number_if ns u) k lt on)

-- each of the units is marked
each_set : (ns : List UnitCounts) (marks : List Bool) (us : List LinkUnit) (u : LinkUnit) → length marks ≡ total_of ns → exists ns u ≡ true → Contains us u → get_or (with_units ns marks us) (unit_number ns u) false ≡ true
each_set ns marks [] u size there m = absurd (Contains-none u m)
each_set ns marks (v ∷ us) u size there m =
    let next : List Bool = with_mark marks (unit_number_if ns v) in
    let len : length next ≡ length marks = with_mark-len marks (unit_number_if ns v) in
    let lt : unit_number ns u < length marks = omega (arith, size, unit_number-lt ns u there) in
    elim (Contains-cons_cases v u us m) [
      | inl e ↦
          let number : unit_number_if ns v ≡ Some (unit_number ns u) = ap (λ (w : LinkUnit). unit_number_if ns w) e ∙ number_if_found ns u there in
          let here : get_or next (unit_number ns u) false ≡ true =
          ap (λ (o : Option ℕ). get_or (with_mark marks o) (unit_number ns u) false) number ∙ get_or-set_same marks (unit_number ns u) true false lt in
          with_units-stays ns next us (unit_number ns u) (omega (arith, lt, len)) here
      | inr rest ↦ each_set ns next us u (len ∙ size) there rest
    ]

-- what is marked was so before, or is one of the units
one_only : (ns : List UnitCounts) (marks : List Bool) (v u : LinkUnit) (o : Option ℕ) → unit_number_if ns v ≡ o → exists ns u ≡ true → get_or (with_mark marks o) (unit_number ns u) false ≡ true → (get_or marks (unit_number ns u) false ≡ true) ⊎ (v ≡ u)
one_only ns marks v u None is there on = inl on
one_only ns marks v u (Some n) is there on =
    elim (cases_eq (unit_number ns u) n) [
      | inl e ↦ let p = number_if_parts ns v n is in inr (unit_number-injective ns v u p.0 there (p.1 ∙ sym e))
      | inr ne ↦ inl (sym (get_or-set_other marks n (unit_number ns u) true false ne) ∙ on)
    ]

only_set : (ns : List UnitCounts) (marks : List Bool) (us : List LinkUnit) (u : LinkUnit) → exists ns u ≡ true → get_or (with_units ns marks us) (unit_number ns u) false ≡ true → (get_or marks (unit_number ns u) false ≡ true) ⊎ Contains us u
only_set ns marks [] u there on = inl on
only_set ns marks (v ∷ us) u there on =
    elim (only_set ns (with_mark marks (unit_number_if ns v)) us u there on) [
      | inl before ↦
          elim (one_only ns marks v u (unit_number_if ns v) refl there before) [
            | inl old ↦ inl old
            | inr e ↦ inr (subst (λ (w : LinkUnit). Contains (v ∷ us) w) e (Contains-here v us))
          ]
      | inr rest ↦ inr (Contains-there v u us rest)
    ]

-- ---- the units

numbering_in : OneNumbers → (link : Link) (facts : List Facts) (u : LinkUnit) → AreAllFacts link.objects facts → NumbersSegments link u → Contains (numbering_from 0 facts) u
numbering_in only link facts u all (v, b) =
    let z = zip_right AreFacts link.objects facts u.object b.object all b.here in
    let r = in_map (segment_reference u.object) z.0.segments (refers_to u v) (number_listed only link z.0 u v b z.2) in
    let same : numbering_unit u.object r.0 ≡ u = ap (λ (x : Reference). x.from) r.2 in
    let listed : Contains (numbering_units u.object z.0.segments) u =
    subst (λ (w : LinkUnit). Contains (numbering_units u.object z.0.segments) w) same (Contains-map (numbering_unit u.object) z.0.segments r.0 r.1) in
    let number : u.object ≡ 0 + u.object = omega arith in
    joined_in (λ k (f : Facts). numbering_units k f.segments) numbering_from (λ i x xs. refl) 0 facts u.object z.0 u z.1
    (subst (λ (k : ℕ). Contains (numbering_units k z.0.segments) u) number listed)

in_numbering : (link : Link) (facts : List Facts) (u : LinkUnit) → AreAllFacts link.objects facts → Contains (numbering_from 0 facts) u → NumbersSegments link u
in_numbering link facts u all m =
    let r = in_joined (λ k (f : Facts). numbering_units k f.segments) numbering_from (λ i. refl) (λ i x xs. refl) 0 facts u m in
    let z = zip_left AreFacts link.objects facts r.0 r.1 all r.2 in
    let number : 0 + r.0 ≡ r.0 = omega arith in
    let here : Contains (numbering_units r.0 r.1.segments) u = subst (λ (k : ℕ). Contains (numbering_units k r.1.segments) u) number r.3 in
    let q = in_map (numbering_unit r.0) r.1.segments u here in
    let v : LinkUnit = record { object = r.0; unit = DataSegment q.0.segment } in
    let same : segment_reference r.0 q.0 ≡ refers_to u v = ap (λ (x : LinkUnit). refers_to x v) q.2 in
    let refers : Contains (map (segment_reference r.0) r.1.segments) (refers_to u v) =
    subst (λ (x : Reference). Contains (map (segment_reference r.0) r.1.segments) x) same (Contains-map (segment_reference r.0) r.1.segments q.0 q.1) in
    (v, by_number link r.0 z.0 r.1 u v z.1 z.2 refers)

-- ---- all marks

pub numbering_is : OneNumbers → (link : Link) (ns : List UnitCounts) (facts : List Facts) (marks : List Bool) → AreAllFacts link.objects facts → marks ≡ with_units ns (replicate (total_of ns) false) (numbering_from 0 facts) → IsNumberingOf link ns marks
numbering_is only link ns facts marks all is =
    let none : List Bool = replicate (total_of ns) false in
    let size : length none ≡ total_of ns = length-replicate (total_of ns) false in
    record {
      sized = ap length is ∙ (with_units-len ns none (numbering_from 0 facts) ∙ size);
      only = λ u there on.
          let set : get_or (with_units ns none (numbering_from 0 facts)) (unit_number ns u) false ≡ true =
          ap (λ (m : List Bool). get_or m (unit_number ns u) false) (sym is) ∙ on in
          elim (only_set ns none (numbering_from 0 facts) u there set) [
            | inl before ↦ absurd (true≢false (sym before ∙ get_or-replicate (total_of ns) (unit_number ns u) false false (unit_number-lt ns u there)))
            | inr listed ↦ in_numbering link facts u all listed
          ];
      every = λ u there has.
          ap (λ (m : List Bool). get_or m (unit_number ns u) false) is
          ∙ each_set ns none (numbering_from 0 facts) u size there (numbering_in only link facts u all has);
    }
