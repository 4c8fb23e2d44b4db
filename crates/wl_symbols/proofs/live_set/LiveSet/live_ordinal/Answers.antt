use Rattle.std.proofs.Common.{◌≡◌, ◌-◌, ◌∙◌, ℕ, sym, ap, arith, rules, true, Some, None}
use Rattle.std.proofs.lemmas.Bool.{cond-true}
use Rattle.wl_symbols.specs.declared.units.LinkUnit.{LinkUnit}
use Rattle.wl_symbols.specs.Units.{unit_index}
use Rattle.wl_symbols.specs.Live.{Live, is_live, live_below}
use Rattle.wl_symbols.proofs.OrdinalLaws.{OrdinalFacts, OrdinalFacts-from}
use Rattle.wl_symbols.proofs.live_set.LiveSet.live_ordinal.Goals as goal

pub overflow_sub-first : goal.overflow_sub-first
overflow_sub-first c =
    let facts = OrdinalFacts-from (record { units = c.self.inside.numbers; marks = c.self.inside.marks; numbering = c.self.inside.numbering }) (record { object = c.args.object; unit = c.args.unit }) c.in_ok-number.number c.unit_index.result c.self.invariant.marks c.in_ok-number.ensures c.unit_index.ensures in
    facts.behind

pub overflow_sub-count : goal.overflow_sub-count
overflow_sub-count c =
    let facts = OrdinalFacts-from (record { units = c.self.inside.numbers; marks = c.self.inside.marks; numbering = c.self.inside.numbering }) (record { object = c.args.object; unit = c.args.unit }) c.in_ok-number.number c.unit_index.result c.self.invariant.marks c.in_ok-number.ensures c.unit_index.ensures in
    omega (arith, facts.counted, c.count_before.ensures, c.count_before-2.ensures)

pub overflow_cast-result : goal.overflow_cast-result
overflow_cast-result c =
    let facts = OrdinalFacts-from (record { units = c.self.inside.numbers; marks = c.self.inside.marks; numbering = c.self.inside.numbering }) (record { object = c.args.object; unit = c.args.unit }) c.in_ok-number.number c.unit_index.result c.self.invariant.marks c.in_ok-number.ensures c.unit_index.ensures in
    omega (arith, facts.counted, facts.small, c.count_before.ensures, c.count_before-2.ensures, c.unit_index.type_inv)

pub returns : goal.returns
returns c =
    let u : LinkUnit = record { object = c.args.object; unit = c.args.unit } in
    let live : Live = record { units = c.self.inside.numbers; marks = c.self.inside.marks; numbering = c.self.inside.numbering } in
    let facts : OrdinalFacts live u c.in_ok-number.number c.unit_index.result = OrdinalFacts-from live u c.in_ok-number.number c.unit_index.result c.self.invariant.marks c.in_ok-number.ensures c.unit_index.ensures in
    let on : is_live c.args.self.now u ≡ true = search rules in
    let count : c.count_before.result - c.count_before-2.result ≡ live_below live u (unit_index c.args.unit) = omega (arith, facts.counted, c.count_before.ensures, c.count_before-2.ensures) in
    ap (λ (n : ℕ). Some n) (count ∙ ap (λ (l : Live). live_below l u (unit_index c.args.unit)) c.self.view_is)
    ∙ sym (cond-true (is_live c.args.self.now u) (Some (live_below c.args.self.now u (unit_index c.args.unit))) None on)
