use Rattle.std.proofs.Common.{◌≡◌, ◌∙◌, ◌<◌, ap, sym, get_or, length, arith, Some, None, slice_get}
use Rattle.std.proofs.lemmas.List.{get_or_read}
use Rattle.std.proofs.lemmas.Option.{cond_some, slice_get-get_or}
use Rattle.wl_symbols.specs.Units.{exists, unit_number, unit_number_if}
use Rattle.wl_why.specs.Certificate.{step_unit}
use Rattle.wl_why.specs.declared.certificate.Step.{Step}
use Rattle.wl_why.proofs.Numbering.{Numbering, no_step}
use Rattle.wl_why.proofs.PlaceLaws.{placed_more, no_such_unit, twice}
use Rattle.wl_why.proofs.places.places_of.Goals as goal

pub returns-in_default : goal.returns-in_default
returns-in_default c =
    let s : Step = get_or c.args.steps.now c.loop-i.i no_step in
    let at : slice_get c.args.steps.now c.loop-i.i ≡ Some s = slice_get-get_or c.args.steps.now c.loop-i.i no_step c.loop-i-test.true in
    let none : unit_number_if c.args.numbers.now (step_unit s) ≡ None = ap (unit_number_if c.args.numbers.now) (sym c.link_unit.ensures) ∙ (sym c.number.ensures ∙ c.in_default.is) in
    λ units. no_such_unit c.args.numbers.now c.args.steps.now c.loop-i.i s at none units

pub returns-then-index-none : goal.returns-then-index-none
returns-then-index-none c =
    let numbering : Numbering = record { below = c.units_are_numbered.ensures.below; own = c.units_are_numbered.ensures.own; each = c.units_are_numbered.ensures.each; roots = c.units_are_numbered.ensures.roots } in
    let s : Step = get_or c.args.steps.now c.loop-i.i no_step in
    let at : slice_get c.args.steps.now c.loop-i.i ≡ Some s = slice_get-get_or c.args.steps.now c.loop-i.i no_step c.loop-i-test.true in
    let number : unit_number_if c.args.numbers.now (step_unit s) ≡ Some c.in-Some.number = ap (unit_number_if c.args.numbers.now) (sym c.link_unit.ensures) ∙ sym c.in-Some.ensures in
    let p = cond_some (exists c.args.numbers.now (step_unit s)) (unit_number c.args.numbers.now (step_unit s)) c.in-Some.number number in
    let inside : c.in-Some.number < length c.loop-i.places.items = omega (arith, p.1, numbering.below c.args.numbers.now (step_unit s) p.0, c.loop-i.invariant.size) in
    let read : c.index.result.now ≡ get_or c.loop-i.places.items c.in-Some.number 0 = get_or_read c.loop-i.places.items c.in-Some.number c.index.result.now inside c.index.ensures 0 in
    λ units. twice numbering c.args.numbers.now c.args.steps.now c.loop-i.i c.loop-i.places.items s c.in-Some.number c.loop-i.invariant at p.0 p.1 (omega (arith, read, c.if-index-none.true)) units

pub loop-i-preserved : goal.loop-i-preserved
loop-i-preserved c =
    let numbering : Numbering = record { below = c.units_are_numbered.ensures.below; own = c.units_are_numbered.ensures.own; each = c.units_are_numbered.ensures.each; roots = c.units_are_numbered.ensures.roots } in
    let s : Step = get_or c.args.steps.now c.loop-i.i no_step in
    let at : slice_get c.args.steps.now c.loop-i.i ≡ Some s = slice_get-get_or c.args.steps.now c.loop-i.i no_step c.loop-i-test.true in
    let number : unit_number_if c.args.numbers.now (step_unit s) ≡ Some c.in-Some.number = ap (unit_number_if c.args.numbers.now) (sym c.link_unit.ensures) ∙ sym c.in-Some.ensures in
    let p = cond_some (exists c.args.numbers.now (step_unit s)) (unit_number c.args.numbers.now (step_unit s)) c.in-Some.number number in
    let inside : c.in-Some.number < length c.loop-i.places.items = omega (arith, p.1, numbering.below c.args.numbers.now (step_unit s) p.0, c.loop-i.invariant.size) in
    let read : c.index.result.now ≡ get_or c.loop-i.places.items c.in-Some.number 0 = get_or_read c.loop-i.places.items c.in-Some.number c.index.result.now inside c.index.ensures 0 in
    placed_more numbering c.args.numbers.now c.args.steps.now c.loop-i.i c.loop-i.places.items s c.in-Some.number c.loop-i.invariant at p.0 p.1 (omega (arith, read, c.if-index-none.false))
