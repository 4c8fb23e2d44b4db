use Rattle.wl_linking.specs.Steps.{Refuses}
use Rattle.wl_exports.specs.steps.Checking.{IsSoundName, IsNameFault}
use Rattle.wl_exports.specs.Faults.{IsExportFault}
use Rattle.wl_exports.proofs.FaultLaws.{ok_of, err_of, required_fault}
use Rattle.wl_exports.proofs.checking.check_asked.Goals as goal

pub returns-clause-clear : goal.returns-clause-clear
returns-clause-clear c =
    let input = c.args.sources.now.input.now in
    let name = c.args.name.now in
    ok_of c.check_name.result (λ _. IsSoundName input name) (IsNameFault input name) (IsSoundName input name)
    (λ x sound. sound) c.check_name.ensures

pub returns-clause-err : goal.returns-clause-err
returns-clause-err c =
    let input = c.args.sources.now.input.now in
    let name = c.args.name.now in
    err_of c.check_name.result (λ _. IsSoundName input name) (IsNameFault input name) (Refuses (IsExportFault input))
    (λ e fault. required_fault input name e c.requires.asked fault) c.check_name.ensures
