use Rattle.std.proofs.Common.{◌≡◌, ◌∙◌, ◌++◌, true, List, sym, ap}
use Rattle.wl_words.specs.declared.args.WasmArgs.{WasmArgs}
use Rattle.wl_exports.specs.Exports.{ExportEntry, stack_pointer_export, candidates, is_code, dynamic_exports}
use Rattle.wl_custom.specs.Symbols.{is_data}
use Rattle.wl_exports.specs.steps.Exports.{AddsExports}
use Rattle.wl_exports.proofs.GrowLaws.{adds_more, adds_same, ok_then}
use Rattle.wl_exports.proofs.EntryLaws.{dynamic_is}
use Rattle.wl_exports.proofs.dynamic.push_dynamic.Goals as goal

pub returns : goal.returns
returns c =
    let input = c.args.sources.now.input.now in
    let old = c.args.exports.now.items in
    let one = c.push_stack_pointer.new.exports.items in
    let two = c.push_candidates.new.exports.items in
    let new = c.push_candidates-2.new.exports.items in
    let pointer : List ExportEntry = stack_pointer_export input in
    let code : List ExportEntry = candidates input is_code in
    let data_exports : List ExportEntry = candidates input is_data in
    let dynamic : input.link.args.export_dynamic ≡ true =
    ap (λ (a : WasmArgs). a.export_dynamic) (sym c.requires.sources.args) ∙ c.if-not-sources.false in
    ok_then c.push_candidates-2.result (AddsExports input data_exports two new)
    (AddsExports input (dynamic_exports input) old new)
    (λ a. adds_same input ((pointer ++ code) ++ data_exports) (dynamic_exports input) old new
    (dynamic_is input dynamic)
    (adds_more input (pointer ++ code) data_exports old two new
    (adds_more input pointer code old one two c.in_ok-push_stack_pointer.ensures c.in_ok-push_candidates.ensures) a))
    c.push_candidates-2.ensures
