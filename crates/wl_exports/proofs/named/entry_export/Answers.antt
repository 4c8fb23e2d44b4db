use Rattle.std.proofs.Common.{◌≡◌, ◌∙◌, ℕ, sym, ap, subst, true, Some}
use Rattle.std.specs.Option.{option_map}
use Rattle.wl_custom.specs.Symbols.{Symbol as LinkedSymbol}
use Rattle.wl_symbols.specs.Entries.{symbol_in}
use Rattle.wl_symbols.specs.Link.{Link}
use Rattle.wl_symbols.specs.Names.{named}
use Rattle.wl_symbols.specs.declared.entry.Definition.{Definition}
use Rattle.wl_symbols.specs.declared.entry.Definition.TheVariants.{Symbol}
use Rattle.wl_custom.specs.Symbols.{is_defined_function}
use Rattle.wl_bind.specs.FunctionSpace.{local_functions}
use Rattle.wl_bind.specs.References.{there}
use Rattle.wl_exports.specs.Exports.{OfFunction, export_of, defined_entity, named_function}
use Rattle.wl_exports.specs.steps.Exports.{IsPlainIf}
use Rattle.wl_exports.proofs.EntryLaws.{plain_same, entry_is, function_parts_of}
use Rattle.wl_exports.proofs.ShownLaws.{found, function_shown, holds_at, kept_entry}
use Rattle.wl_exports.proofs.named.entry_export.Goals as goal

pub returns-then-is_defined_function : goal.returns-then-is_defined_function
returns-then-is_defined_function c =
    let input = c.args.sources.now.input.now in
    let name = c.args.name.now in
    let object = c.in-Symbol.object in
    let number = c.in-Symbol.symbol in
    let names : named input.link name ≡ Some (Symbol object number) =
    ap (λ (l : Link). named l name) (sym c.symbols-symbols.ensures)
    ∙ (sym c.in_ok-object.ensures ∙ ap (λ (d : Definition). Some d) c.in-Symbol.is) in
    let at : symbol_in input.link.objects object number ≡ Some c.in_ok-symbol.symbol.now =
    ap (λ (l : Link). symbol_in l.objects object number) (sym c.symbols-symbols.ensures) ∙ sym c.in_ok-symbol.ensures in
    let f = found input.link.objects object number c.in_ok-symbol.symbol.now at in
    let s = c.in_ok-symbol.symbol.now in
    let yes : is_defined_function s ≡ true = sym c.is_defined_function.ensures ∙ c.if-is_defined_function.true in
    let h = function_parts_of s yes in
    let indices = ap (λ (t : LinkedSymbol). t.index) c.symbol-2.view_is in
    let index : c.symbol-2.inside.index ≡ s.index = cc in
    let kept = kept_entry c.live_units_are_closed.ensures.root input name object number f.owner s
    c.requires.sources.settled.kept c.requires.asked names f.here f.at h.1 in
    let P : ℕ → Type 0 = λ i. IsPlainIf input (option_map (export_of name)
    (option_map OfFunction (there (local_functions input object f.owner) i))) c.function_export.result in
    plain_same input name (named_function input name) (defined_entity input object number f.owner s)
    c.function_export.result (entry_is input name object number s names f yes)
    (function_shown c.definitions_have_numbers.ensures c.slots_are_numbered.ensures.functions input object number
    f.owner s name c.function_export.result
    (holds_at input.link.objects object f.owner c.requires.sources.settled.whole f.here) f.at h.0 h.1 kept
    (subst P index (c.function_export.ensures f.owner f.here)))
