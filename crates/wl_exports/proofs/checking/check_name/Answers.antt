use Rattle.std.proofs.Common.{◌≡◌, ◌∙◌, sym, ap, Some, false}
use Rattle.wl_symbols.specs.Link.{Link}
use Rattle.wl_symbols.specs.Names.{named}
use Rattle.wl_symbols.specs.declared.entry.Definition.TheVariants.{Symbol}
use Rattle.wl_bind.specs.ExportedData.{is_made_name}
use Rattle.wl_exports.specs.steps.Checking.{IsSoundSymbol, IsSymbolFault, IsSoundName, IsNameFault}
use Rattle.wl_exports.proofs.FaultLaws.{match_then, sound_name, name_fault}
use Rattle.wl_exports.proofs.checking.check_name.Goals as goal

pub returns-in-Some-Symbol : goal.returns-in-Some-Symbol
returns-in-Some-Symbol c =
    let input = c.args.sources.now.input.now in
    let name = c.args.name.now in
    let object = c.in-Some-Symbol.object in
    let number = c.in-Some-Symbol.symbol in
    let found = rw c.in-Some-Symbol.field-0-is at c.in-Some-Symbol.ensures in
    let names : named input.link name ≡ Some (Symbol object number) =
    ap (λ (l : Link). named l name) (sym c.symbols.ensures) ∙ sym found in
    let unmade : is_made_name input name ≡ false = sym c.is_made_name.ensures ∙ c.if-is_made_name.false in
    match_then c.check_symbol.result (λ _. IsSoundSymbol input object number) (λ _. IsSoundName input name)
    (IsSymbolFault input name object number) (IsNameFault input name)
    (λ x sound. sound_name input name object number names sound)
    (λ e fault. name_fault input name object number e unmade names fault) c.check_symbol.ensures
