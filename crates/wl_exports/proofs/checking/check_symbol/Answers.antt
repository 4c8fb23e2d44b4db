use Rattle.std.proofs.Common.{◌≡◌, ◌∙◌, sym, ap, Some, false}
use Rattle.wl_custom.specs.Symbols.{Symbol as LinkedSymbol, is_undefined}
use Rattle.wl_symbols.specs.Entries.{symbol_in}
use Rattle.wl_symbols.specs.Link.{Link}
use Rattle.wl_exports.proofs.FaultLaws.{sound_by, kind_of_three}
use Rattle.wl_exports.proofs.checking.check_symbol.Goals as goal

pub returns-else-is_undefined : goal.returns-else-is_undefined
returns-else-is_undefined c =
    let input = c.args.input.now in
    let s = c.in-Some.symbol.now in
    let at : symbol_in input.link.objects c.args.object c.args.number ≡ Some s =
    ap (λ (l : Link). symbol_in l.objects c.args.object c.args.number) (sym c.symbols.ensures) ∙ sym c.in-Some.ensures in
    let defined : is_undefined s ≡ false = sym c.is_undefined.ensures ∙ c.if-is_undefined.false in
    let kinds : c.symbol-2.inside.kind ≡ s.kind = ap (λ (t : LinkedSymbol). t.kind) c.symbol-2.view_is in
    sound_by c.definitions_have_numbers.ensures input c.args.object c.args.number s c.requires.whole at defined
    (kind_of_three c.symbol-2.inside.kind s.kind kinds c.in-Func.is)
