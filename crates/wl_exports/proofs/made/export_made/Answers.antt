use Rattle.std.proofs.Common.{sym, subst, Some}
use Rattle.wl_module.specs.declared.imports.ExternalKind.{ExternalKind}
use Rattle.wl_bind.specs.MadeIndices.{IsMadeIndex}
use Rattle.wl_exports.specs.steps.Exports.{IsPlainIf}
use Rattle.wl_exports.proofs.MadeLaws.{made_entry, made_plain}
use Rattle.wl_exports.proofs.made.export_made.Goals as goal

pub returns : goal.returns
returns c =
    let input = c.args.sources.now.input.now in
    let at : IsMadeIndex input c.args.made (Some c.in_ok-index.index) =
    c.in_ok-index.ensures input c.requires.indices in
    subst (λ (k : ExternalKind). IsPlainIf input (made_entry input c.args.made c.args.name.now)
    (Some (record { name = c.args.name.now; kind = k; index = c.in_ok-index.index })))
    (sym c.kind_of.ensures) (made_plain input c.args.made c.args.name.now c.in_ok-index.index at)
