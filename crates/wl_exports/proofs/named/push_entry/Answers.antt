use Rattle.std.proofs.Common.{◌≡◌, ◌∙◌, ℕ, List, Some, sym, ap}
use Rattle.std.specs.Option.{option_to_list}
use Rattle.wl_words.specs.declared.args.WasmArgs.{WasmArgs}
use Rattle.wl_exports.specs.Exports.{entry_export, named_function}
use Rattle.wl_exports.specs.steps.Exports.{AddsExports}
use Rattle.wl_exports.proofs.EntryLaws.{name_entry, names_one}
use Rattle.wl_exports.proofs.GrowLaws.{adds_same, ok_then}
use Rattle.wl_exports.proofs.named.push_entry.Goals as goal

pub returns-in-Some : goal.returns-in-Some
returns-in-Some c =
    let input = c.args.sources.now.input.now in
    let name = c.as_str.result.now in
    let old = c.args.exports.now.items in
    let new = c.push_some.new.exports.items in
    let asked : input.link.args.entry ≡ Some c.as_str.result.now =
    ap (λ (a : WasmArgs). a.entry) (sym c.requires.args)
    ∙ (c.in-Some.is ∙ ap (λ (n : List ℕ). Some n) (sym c.as_str.ensures)) in
    ok_then c.push_some.result (AddsExports input (option_to_list (name_entry (named_function input) name)) old new)
    (AddsExports input (entry_export input) old new)
    (λ a. adds_same input (option_to_list (name_entry (named_function input) name)) (entry_export input) old new
    (names_one (named_function input) input.link.args.entry name asked) a)
    (c.push_some.ensures input (name_entry (named_function input) name) c.entry_export.ensures)
