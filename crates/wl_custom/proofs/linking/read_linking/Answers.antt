use Rattle.std.proofs.lemmas.Result.{err_from_is_err_and}
use Rattle.wl_custom.proofs.LinkingLaws.{version_fault, whole_linking}
use Rattle.wl_custom.proofs.linking.read_linking.Goals as goal

pub returns-in_err-read_version : goal.returns-in_err-read_version
returns-in_err-read_version c =
    let p = err_from_is_err_and c.from_residual.result c.from_residual.ensures.1 in
    rw (p.1, p.2) (version_fault c.args.base c.args.payload.now c.in_err-read_version.field-0.0 (rw (← c.new-reader.ensures) c.in_err-read_version.ensures.value))

pub returns : goal.returns
returns c = whole_linking c.args.base c.args.payload.now (2, tt) c.read_version.new.reader c.read_subsections.result (rw (← c.new-reader.ensures) c.in_ok-read_version.ensures.value) c.read_subsections.ensures
