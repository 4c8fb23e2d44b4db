use Rattle.std.proofs.Common.{◌≡◌, ◌∙◌, sym, Some}
use Rattle.wl_symbols.specs.LinkerNames.{symbol_named}
use Rattle.wl_exports.proofs.MadeLaws.{made_tells, made_name}
use Rattle.wl_exports.proofs.made.is_made_name.Goals as goal

pub returns-in-Some : goal.returns-in-Some
returns-in-Some c =
    let input = c.args.sources.now.input.now in
    let m = c.in-Some.made in
    let named_so : symbol_named c.args.name.now ≡ Some m = sym c.in-Some.ensures in
    c.is_some.ensures
    ∙ (made_tells input m c.index.result (c.index.ensures input c.requires.indices)
    ∙ sym (made_name input c.args.name.now m named_so))
