use Rattle.std.proofs.lemmas.Result.{err_from_is_err_and}
use Rattle.wl_linking.specs.Fitting.{PartsFault, SettlingFault}
use Rattle.wl_linking.proofs.AlternativeLaws.{unsettled}
use Rattle.wl_custom.proofs.Exact.{cause_follows}
use Rattle.wl_linking.proofs.object.place.Goals as goal

pub returns-in_err-sites : goal.returns-in_err-sites
returns-in_err-sites c =
    let p = err_from_is_err_and c.from_residual.result c.from_residual.ensures.1 in
    rw (p.1, p.2) (cause_follows (SettlingFault c.args.parts) (PartsFault c.args.bytes.now c.args.sections c.args.parts)
    (unsettled c.args.bytes.now c.args.sections c.args.parts) c.in_err-sites.field-0.0 c.in_err-sites.ensures)
