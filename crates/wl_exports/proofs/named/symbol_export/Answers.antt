use Rattle.std.proofs.Common.{◌≡◌, ◌∙◌, ℕ, sym, ap, subst, false}
use Rattle.std.specs.Option.{option_map}
use Rattle.wl_custom.specs.Symbols.{Symbol as LinkedSymbol, is_undefined}
use Rattle.wl_custom.specs.declared.symbols.WasmSymbolKind.TheVariants.{Func, Global}
use Rattle.wl_bind.specs.FunctionSpace.{local_functions}
use Rattle.wl_bind.specs.GlobalSpace.{local_globals}
use Rattle.wl_bind.specs.References.{there}
use Rattle.wl_exports.specs.Exports.{OfFunction, OfGlobal, export_of}
use Rattle.wl_exports.specs.steps.Exports.{IsPlainIf}
use Rattle.wl_exports.proofs.ShownLaws.{function_shown, global_shown, holds_at}
use Rattle.wl_exports.proofs.named.symbol_export.Goals as goal

pub returns-in-Func : goal.returns-in-Func
returns-in-Func c = λ o shown.
    let input = c.args.sources.now.input.now in
    let s = c.args.symbol.now in
    let name = c.args.name.now in
    let kinds = ap (λ (t : LinkedSymbol). t.kind) c.symbol.view_is in
    let indices = ap (λ (t : LinkedSymbol). t.index) c.symbol.view_is in
    let at = c.in-Func.is in
    let kind : s.kind ≡ Func = cc in
    let index : c.symbol.inside.index ≡ s.index = cc in
    let defined : is_undefined s ≡ false = sym c.is_undefined.ensures ∙ c.if-is_undefined.false in
    let P : ℕ → Type 0 = λ i. IsPlainIf input (option_map (export_of name)
    (option_map OfFunction (there (local_functions input c.args.object o) i))) c.function_export.result in
    function_shown c.definitions_have_numbers.ensures c.slots_are_numbered.ensures.functions input c.args.object
    c.args.number o s name c.function_export.result
    (holds_at input.link.objects c.args.object o c.requires.sources.settled.whole shown.here) shown.at kind
    defined (shown.kept defined) (subst P index (c.function_export.ensures o shown.here))

pub returns-in-Global : goal.returns-in-Global
returns-in-Global c = λ o shown.
    let input = c.args.sources.now.input.now in
    let s = c.args.symbol.now in
    let name = c.args.name.now in
    let kinds = ap (λ (t : LinkedSymbol). t.kind) c.symbol.view_is in
    let indices = ap (λ (t : LinkedSymbol). t.index) c.symbol.view_is in
    let at = c.in-Global.is in
    let kind : s.kind ≡ Global = cc in
    let index : c.symbol.inside.index ≡ s.index = cc in
    let defined : is_undefined s ≡ false = sym c.is_undefined.ensures ∙ c.if-is_undefined.false in
    let P : ℕ → Type 0 = λ i. IsPlainIf input (option_map (export_of name)
    (option_map OfGlobal (there (local_globals input c.args.object o) i))) c.global_export.result in
    global_shown c.definitions_have_numbers.ensures c.slots_are_numbered.ensures.globals input c.args.object
    c.args.number o s name c.global_export.result
    (holds_at input.link.objects c.args.object o c.requires.sources.settled.whole shown.here) shown.at kind
    defined (shown.kept defined) (subst P index (c.global_export.ensures o shown.here))
