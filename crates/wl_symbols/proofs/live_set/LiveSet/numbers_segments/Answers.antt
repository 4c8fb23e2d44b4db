use Rattle.std.proofs.Common.{◌∙◌, sym, ap, arith, false, get_or}
use Rattle.wl_symbols.specs.declared.units.LinkUnit.{LinkUnit}
use Rattle.wl_symbols.specs.declared.units.WasmGcUnit.TheVariants.{DefinedFunction}
use Rattle.wl_symbols.specs.Live.{Live, numbers_segments}
use Rattle.wl_symbols.proofs.NumberingLaws.{number_if_parts, unit_number-lt}
use Rattle.wl_symbols.proofs.OrdinalLaws.{numbers_segments-mark}
use Rattle.wl_symbols.proofs.live_set.LiveSet.numbers_segments.Goals as goal

pub get-requires : goal.get-requires
get-requires c =
    let u : LinkUnit = record { object = c.args.object; unit = DefinedFunction c.args.function } in
    let p = number_if_parts c.self.inside.numbers u c.in-Some.number (sym c.in-Some.ensures) in
    omega (arith, p.1, unit_number-lt c.self.inside.numbers u p.0, c.self.invariant.numbering)

pub returns-in-Some : goal.returns-in-Some
returns-in-Some c =
    let u : LinkUnit = record { object = c.args.object; unit = DefinedFunction c.args.function } in
    let live : Live = record { units = c.self.inside.numbers; marks = c.self.inside.marks; numbering = c.self.inside.numbering } in
    let p = number_if_parts c.self.inside.numbers u c.in-Some.number (sym c.in-Some.ensures) in
    c.get.ensures ∙ (ap (λ n. get_or c.self.inside.numbering n false) (sym p.1) ∙ (sym (numbers_segments-mark live u p.0) ∙ ap (λ (l : Live). numbers_segments l u) c.self.view_is))
