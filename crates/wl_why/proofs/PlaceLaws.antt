-- Where units stand in a certificate, step by step.
use Rattle.std.proofs.Common.{◌≡◌, ◌≢◌, ℕ, ◌+◌, ◌<◌, ◌≤◌, true, List, length, get_or, set, replicate, inl, inr, ap, sym, ◌∙◌, subst, arith, Some, None, slice_get}
use Rattle.std.proofs.lemmas.Bool.{cases_eq, cases_lt, cond-true}
use Rattle.std.proofs.lemmas.List.{length-set, length-replicate, get_or-replicate, get_or-set_same, get_or-set_other}
use Rattle.wl_symbols.specs.Units.{exists, unit_number, unit_number_if, total_of}
use Rattle.wl_symbols.specs.declared.units.LinkUnit.{LinkUnit}
use Rattle.wl_symbols.specs.declared.units.UnitCounts.{UnitCounts}
use Rattle.wl_why.specs.Certificate.{step_unit, unit_at_place}
use Rattle.wl_why.specs.Places.{ArePlacesTo, ArePlaces, AreUnits}
use Rattle.wl_why.specs.declared.certificate.Step.{Step}
use Rattle.wl_why.proofs.Numbering.{Numbering, unit_here, place_within, same_unit_here}

pub placed_none : (ns : List UnitCounts) (steps : List Step) (places : List ℕ) → places ≡ replicate (total_of ns) (length steps) → ArePlacesTo ns steps 0 places
placed_none ns steps places e = record {
  size = ap length e ∙ length-replicate (total_of ns) (length steps);
  exist = λ place u lt at. absurd (omega arith);
  at = λ place u lt at. absurd (omega arith);
  only = λ n lt less.
      let same : get_or places n 0 ≡ length steps = ap (λ (l : List ℕ). get_or l n 0) e ∙ get_or-replicate (total_of ns) n (length steps) 0 lt in
      absurd (omega (arith, same, less));
}

-- one more step of a unit that exists and has no place yet
pub placed_more : Numbering → (ns : List UnitCounts) (steps : List Step) (i : ℕ) (places : List ℕ) (s : Step) (n : ℕ) → ArePlacesTo ns steps i places → slice_get steps i ≡ Some s → exists ns (step_unit s) ≡ true → unit_number ns (step_unit s) ≡ n → length steps ≤ get_or places n 0 → ArePlacesTo ns steps (i + 1) (set places n i)
placed_more numbering ns steps i places s n p here there number free =
    let lt : n < total_of ns = omega (arith, number, numbering.below ns (step_unit s) there) in
    let inside : n < length places = omega (arith, lt, p.size) in
    let at_i : unit_at_place steps i ≡ Some (step_unit s) = unit_here steps i s here in
    let within : i < length steps = place_within steps i (step_unit s) at_i in
    record {
      size = length-set places n i ∙ p.size;
      exist = λ place u below at.
          elim (cases_lt place i) [
            | inl less ↦ p.exist place u less at
            | inr more ↦
                let same : place ≡ i = omega (arith, below, more) in
                let unit : step_unit s ≡ u = same_unit_here steps i (step_unit s) u at_i (rw same at at) in
                subst (λ (w : LinkUnit). exists ns w ≡ true) unit there
          ];
      at = λ place u below at.
          elim (cases_lt place i) [
            | inl less ↦
                let old : get_or places (unit_number ns u) 0 ≡ place = p.at place u less at in
                let other : unit_number ns u ≢ n = λ e. omega (arith, old, ap (λ (m : ℕ). get_or places m 0) e, free, less, within) in
                get_or-set_other places n (unit_number ns u) i 0 other ∙ old
            | inr more ↦
                let same : place ≡ i = omega (arith, below, more) in
                let unit : step_unit s ≡ u = same_unit_here steps i (step_unit s) u at_i (rw same at at) in
                let own : unit_number ns u ≡ n = ap (unit_number ns) (sym unit) ∙ number in
                rw own (get_or-set_same places n i 0 inside ∙ sym same)
          ];
      only = λ m small less.
          elim (cases_eq m n) [
            | inl same ↦
                let value : get_or (set places n i) m 0 ≡ i = ap (λ (k : ℕ). get_or (set places n i) k 0) same ∙ get_or-set_same places n i 0 inside in
                rw value (record { below = omega arith; unit = step_unit s; at = at_i; number = number ∙ sym same })
            | inr other ↦
                let value : get_or (set places n i) m 0 ≡ get_or places m 0 = get_or-set_other places n m i 0 other in
                let old = p.only m small (rw value at less) in
                rw value (record { below = omega (arith, old.below); unit = old.unit; at = old.at; number = old.number })
          ];
    }

-- a step of a unit that doesn't exist
pub no_such_unit : (ns : List UnitCounts) (steps : List Step) (i : ℕ) (s : Step) → slice_get steps i ≡ Some s → unit_number_if ns (step_unit s) ≡ None → AreUnits ns steps → ⊥
no_such_unit ns steps i s here none units =
    let there : exists ns (step_unit s) ≡ true = units.exist i (step_unit s) (unit_here steps i s here) in
    let some : unit_number_if ns (step_unit s) ≡ Some (unit_number ns (step_unit s)) = cond-true (exists ns (step_unit s)) (Some (unit_number ns (step_unit s))) None there in
    let h : Some (unit_number ns (step_unit s)) ≡ None = sym some ∙ none in absurd (cc)

-- a step of a unit that has a place already
pub twice : Numbering → (ns : List UnitCounts) (steps : List Step) (i : ℕ) (places : List ℕ) (s : Step) (n : ℕ) → ArePlacesTo ns steps i places → slice_get steps i ≡ Some s → exists ns (step_unit s) ≡ true → unit_number ns (step_unit s) ≡ n → get_or places n 0 < length steps → AreUnits ns steps → ⊥
twice numbering ns steps i places s n p here there number less units =
    let lt : n < total_of ns = omega (arith, number, numbering.below ns (step_unit s) there) in
    let old = p.only n lt less in
    let exist : exists ns old.unit ≡ true = p.exist (get_or places n 0) old.unit old.below old.at in
    let unit : old.unit ≡ step_unit s = numbering.own ns old.unit (step_unit s) exist there (old.number ∙ sym number) in
    let same : get_or places n 0 ≡ i = units.once (get_or places n 0) i (step_unit s) (old.at ∙ ap Some unit) (unit_here steps i s here) in
    omega (arith, same, old.below)

pub units_from_places : (ns : List UnitCounts) (steps : List Step) (places : List ℕ) → ArePlaces ns steps places → AreUnits ns steps
units_from_places ns steps places p = record {
  exist = λ place u at. p.exist place u (place_within steps place u at) at;
  once = λ j k u a b. sym (p.at j u (place_within steps j u a) a) ∙ p.at k u (place_within steps k u b) b;
}
