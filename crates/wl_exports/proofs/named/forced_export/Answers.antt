use Rattle.std.proofs.Common.{◌≡◌, ◌∙◌, sym, ap, false, Some}
use Rattle.wl_symbols.specs.Entries.{symbol_in}
use Rattle.wl_symbols.specs.Link.{Link}
use Rattle.wl_symbols.specs.Names.{named}
use Rattle.wl_symbols.specs.declared.entry.Definition.{Definition}
use Rattle.wl_symbols.specs.declared.entry.Definition.TheVariants.{Symbol}
use Rattle.wl_bind.specs.ExportedData.{is_made_name}
use Rattle.wl_exports.specs.Exports.{defined_entity, unless_made}
use Rattle.wl_exports.proofs.EntryLaws.{plain_same, forced_is}
use Rattle.wl_exports.proofs.ShownLaws.{found, shown_forced}
use Rattle.wl_exports.proofs.named.forced_export.Goals as goal

pub returns : goal.returns
returns c =
    let input = c.args.sources.now.input.now in
    let name = c.args.name.now in
    let object = c.in-Symbol.object in
    let number = c.in-Symbol.symbol in
    let names : named input.link name ≡ Some (Symbol object number) =
    ap (λ (l : Link). named l name) (sym c.symbols-symbols.ensures)
    ∙ (sym c.in_ok-object.ensures ∙ ap (λ (d : Definition). Some d) c.in-Symbol.is) in
    let at : symbol_in input.link.objects object number ≡ Some c.in_ok-found.found.now =
    ap (λ (l : Link). symbol_in l.objects object number) (sym c.symbols-symbols.ensures) ∙ sym c.in_ok-found.ensures in
    let f = found input.link.objects object number c.in_ok-found.found.now at in
    let s = c.in_ok-found.found.now in
    let unmade : is_made_name input name ≡ false = sym c.is_made_name.ensures ∙ c.if-is_made_name.false in
    let shown = shown_forced c.live_units_are_closed.ensures.root input name object number f.owner s
    c.requires.sources.settled.kept c.requires.asked unmade names f.here f.at in
    plain_same input name (unless_made input name) (defined_entity input object number f.owner s)
    c.symbol_export.result (forced_is input name object number s unmade names f)
    (c.symbol_export.ensures f.owner shown)
