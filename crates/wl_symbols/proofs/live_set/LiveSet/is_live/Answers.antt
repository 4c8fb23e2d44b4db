use Rattle.std.proofs.Common.{◌∙◌, sym, ap, arith, false, get_or}
use Rattle.wl_symbols.specs.declared.units.LinkUnit.{LinkUnit}
use Rattle.wl_symbols.specs.Live.{Live, is_live}
use Rattle.wl_symbols.proofs.NumberingLaws.{number_if_parts, unit_number-lt}
use Rattle.wl_symbols.proofs.OrdinalLaws.{is_live-mark}
use Rattle.wl_symbols.proofs.live_set.LiveSet.is_live.Goals as goal

pub get-requires : goal.get-requires
get-requires c =
    let p = number_if_parts c.self.inside.numbers (record { object = c.args.object; unit = c.args.unit }) c.in-Some.number (sym c.in-Some.ensures) in
    omega (arith, p.1, unit_number-lt c.self.inside.numbers (record { object = c.args.object; unit = c.args.unit }) p.0, c.self.invariant.marks)

pub returns-in-Some : goal.returns-in-Some
returns-in-Some c =
    let u : LinkUnit = record { object = c.args.object; unit = c.args.unit } in
    let live : Live = record { units = c.self.inside.numbers; marks = c.self.inside.marks; numbering = c.self.inside.numbering } in
    let p = number_if_parts c.self.inside.numbers u c.in-Some.number (sym c.in-Some.ensures) in
    c.get.ensures ∙ (ap (λ n. get_or c.self.inside.marks n false) (sym p.1) ∙ (sym (is_live-mark live u p.0) ∙ ap (λ (l : Live). is_live l u) c.self.view_is))
