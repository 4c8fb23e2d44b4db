use Rattle.std.proofs.Common.{◌≡◌, rules, true}
use Rattle.std.proofs.lemmas.Result.{IfErr-weaker}
use Rattle.wl_custom.specs.Symbols.{is_undefined}
use Rattle.wl_custom.specs.declared.symbols.WasmSymbolKind.TheVariants.{Func}
use Rattle.wl_symbols.specs.Input.{keeps_slot}
use Rattle.wl_bind.proofs.MismatchLaws.{slot_told}
use Rattle.wl_bind.proofs.signatures.TypeCheck.check_undefined.Goals as goal

pub returns-clause-err : goal.returns-clause-err
returns-clause-err c =
    let input = c.args.self.now.input.now in
    let undefined : is_undefined c.args.symbol.now ≡ true = search rules in
    let kept : keeps_slot input Func c.args.object c.args.symbol.now.index ≡ true = search rules in
    IfErr-weaker c.check_symbol.result _ _ (λ e h. slot_told input c.args.object c.args.number c.args.symbol.now e c.requires undefined kept h)
    c.check_symbol.ensures.err
