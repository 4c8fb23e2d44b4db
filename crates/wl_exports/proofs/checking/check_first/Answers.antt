use Rattle.std.specs.List.{AllZip}
use Rattle.wl_linking.specs.Steps.{Refuses}
use Rattle.wl_exports.specs.Exports.{first_exports}
use Rattle.wl_exports.specs.steps.Checking.{AreDistinct, AreSoundFirst, IsRepeat}
use Rattle.wl_exports.specs.Faults.{IsExportFault}
use Rattle.wl_exports.specs.Sources.{IsPlainExport}
use Rattle.wl_exports.proofs.FaultLaws.{ok_of, err_of, zip_of, sound_first, repeat_fault}
use Rattle.wl_exports.proofs.checking.check_first.Goals as goal

pub returns-clause-clear : goal.returns-clause-clear
returns-clause-clear c =
    let input = c.args.sources.now.input.now in
    let xs = c.as_slice.result.now in
    let zip : AllZip (IsPlainExport input) (first_exports input) c.as_slice.result.now =
    zip_of input (first_exports input) c.new-exports.result.items c.push_first.new.exports.items xs
    c.in_ok-push_first.ensures c.new-exports.ensures.items c.as_slice.ensures.value in
    ok_of c.check_distinct.result (λ _. AreDistinct xs) (IsRepeat xs) (AreSoundFirst input)
    (λ x distinct. sound_first input xs zip distinct) c.check_distinct.ensures

pub returns-clause-err : goal.returns-clause-err
returns-clause-err c =
    let input = c.args.sources.now.input.now in
    let xs = c.as_slice.result.now in
    let zip : AllZip (IsPlainExport input) (first_exports input) c.as_slice.result.now =
    zip_of input (first_exports input) c.new-exports.result.items c.push_first.new.exports.items xs
    c.in_ok-push_first.ensures c.new-exports.ensures.items c.as_slice.ensures.value in
    err_of c.check_distinct.result (λ _. AreDistinct xs) (IsRepeat xs) (Refuses (IsExportFault input))
    (λ e repeat. repeat_fault input xs e zip repeat) c.check_distinct.ensures
