use Rattle.std.proofs.Common.{◌≡◌, sym, subst, Option, Some}
use Rattle.wl_symbols.specs.LinkerNames.{symbol_named}
use Rattle.wl_exports.specs.Exports.{ExportEntry}
use Rattle.wl_exports.specs.steps.Exports.{IsPlainIf}
use Rattle.wl_exports.proofs.MadeLaws.{under_is}
use Rattle.wl_exports.proofs.made.export_made_under.Goals as goal

pub returns : goal.returns
returns c =
    let input = c.args.sources.now.input.now in
    let named_so : symbol_named c.args.name.now ≡ Some c.in_ok-made.made = sym c.in_ok-made.ensures in
    subst (λ (e : Option ExportEntry). IsPlainIf input e c.export_made.result)
    (sym (under_is input c.args.name.now c.in_ok-made.made named_so)) c.export_made.ensures
