use Rattle.std.proofs.Common.{sym, arith}
use Rattle.wl_symbols.proofs.NumberingLaws.{number_if_parts, unit_number-lt}
use Rattle.wl_live.proofs.numbering.mark_unit.Goals as goal

pub set-requires : goal.set-requires
set-requires c =
    let ns = c.args.numbers.now in
    let p = number_if_parts ns c.args.unit c.in-Some.number (sym c.in-Some.ensures) in
    omega (arith, p.1, unit_number-lt ns c.args.unit p.0, c.requires)
