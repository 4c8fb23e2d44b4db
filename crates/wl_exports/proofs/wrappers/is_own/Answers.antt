use Rattle.std.proofs.Common.{◌≡◌, ap}
use Rattle.wl_module.specs.Exports.{Exported}
use Rattle.wl_module.specs.declared.imports.ExternalKind.TheVariants as external
use Rattle.wl_exports.proofs.WrapLaws.{own_function}
use Rattle.wl_exports.proofs.wrappers.is_own.Goals as goal

pub returns-in-Func : goal.returns-in-Func
returns-in-Func c = λ input e count plain.
    let view = c.export.view_is in
    let at = c.in-Func.is in
    let index = ap (λ (x : Exported). x.index) c.export.view_is in
    let kinds = ap (λ (x : Exported). x.kind) c.export.view_is in
    let kind : c.args.export.now.kind ≡ external.Func = cc in
    let is = own_function input e.entity c.args.export.now c.args.hosts plain.leads kind count in
    cc
