use Rattle.std.proofs.Common.{◌∙◌, ap}
use Rattle.std.proofs.lemmas.Result.{IfOk-weaker}
use Rattle.wl_bind.specs.Scan.{scan_of}
use Rattle.wl_bind.specs.steps.Scanning.{scan_part}
use Rattle.wl_bind.proofs.ScanLaws.{scan_found}
use Rattle.wl_bind.proofs.scanning.gather.Goals as goal

pub returns : goal.returns
returns c =
    IfOk-weaker c.into_scan.result _ _
    (λ scan is. is ∙ ap scan_part c.in_ok-walk_relocations.ensures ∙ scan_found c.in_ok-check.check.input.now ∙ ap scan_of c.in_ok-check.ensures.input)
    c.into_scan.ensures
