use Rattle.wl_linking.specs.Steps.{Clear}
use Rattle.wl_exports.specs.steps.Checking.{AreSoundFirst}
use Rattle.wl_exports.specs.Faults.{IsExportFault}
use Rattle.wl_exports.proofs.FaultLaws.{clear_of}
use Rattle.wl_exports.proofs.GrowLaws.{ok_then}
use Rattle.wl_exports.proofs.checking.check_exports.Goals as goal

pub returns-clause-clear : goal.returns-clause-clear
returns-clause-clear c =
    let input = c.args.sources.now.input.now in
    ok_then c.check_first.result (AreSoundFirst input) (Clear (IsExportFault input))
    (λ first. clear_of input c.in_ok-check_required.ensures.clear first) c.check_first.ensures.clear
