use Rattle.std.proofs.Common.{◌≡◌, ◌+◌, ◌∙◌, ap, sym, arith, rules, true, Some, ℕ, subst, List}
use Rattle.wl_symbols.specs.declared.units.UnitCounts.{UnitCounts}
use Rattle.wl_symbols.specs.Units.{has_unit, exists, units_at, unit_number, unit_number_if}
use Rattle.wl_symbols.proofs.NumberingLaws.{number_found, number_if_found, exists_from, unit_number-lt}
use Rattle.wl_symbols.proofs.unit_numbers.UnitNumbers.number.Goals as goal

pub overflow_add-result : goal.overflow_add-result
overflow_add-result c =
    let units : c.counts-counts.result ≡ units_at c.self.inside.counts.items c.args.unit.object = rw (← c.self.view_is) at c.counts-counts.ensures.units in
    let has : has_unit c.counts-counts.result c.args.unit.unit ≡ true = search rules in
    let found : c.index.result.now + c.number_in_object.result ≡ unit_number c.self.inside.counts.items c.args.unit =
    number_found c.self.inside.counts.items c.self.inside.bases.items c.self.inside.total c.args.unit c.counts-counts.result c.index.result.now c.number_in_object.result c.self.invariant units has c.index.ensures c.number_in_object.ensures in
    let ex : exists c.self.inside.counts.items c.args.unit ≡ true = exists_from c.self.inside.counts.items c.args.unit c.counts-counts.result units has in
    omega (arith, unit_number-lt c.self.inside.counts.items c.args.unit ex, c.self.invariant.all, c.self.invariant.fits)

pub returns : goal.returns
returns c =
    let units : c.counts-counts.result ≡ units_at c.self.inside.counts.items c.args.unit.object = rw (← c.self.view_is) at c.counts-counts.ensures.units in
    let has : has_unit c.counts-counts.result c.args.unit.unit ≡ true = search rules in
    let found : c.index.result.now + c.number_in_object.result ≡ unit_number c.self.inside.counts.items c.args.unit =
    number_found c.self.inside.counts.items c.self.inside.bases.items c.self.inside.total c.args.unit c.counts-counts.result c.index.result.now c.number_in_object.result c.self.invariant units has c.index.ensures c.number_in_object.ensures in
    let ex : exists c.self.inside.counts.items c.args.unit ≡ true = exists_from c.self.inside.counts.items c.args.unit c.counts-counts.result units has in
    subst (λ (ns : List UnitCounts). Some (c.index.result.now + c.number_in_object.result) ≡ unit_number_if ns c.args.unit) c.self.view_is
    (ap (λ (n : ℕ). Some n) found ∙ sym (number_if_found c.self.inside.counts.items c.args.unit ex))
