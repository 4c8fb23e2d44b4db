use Rattle.wl_exports.specs.Exports.{inherited_exports, memory_export, first_exports}
use Rattle.wl_exports.specs.steps.Exports.{AddsExports, memory_entry}
use Rattle.wl_exports.proofs.GrowLaws.{adds_more, ok_then}
use Rattle.wl_exports.proofs.inherited.push_first.Goals as goal

pub returns : goal.returns
returns c =
    let input = c.args.sources.now.input.now in
    let old = c.args.exports.now.items in
    let middle = c.push_inherited.new.exports.items in
    let new = c.push_some.new.exports.items in
    ok_then c.push_some.result (AddsExports input (memory_export input) middle new)
    (AddsExports input (first_exports input) old new)
    (λ a. adds_more input (inherited_exports input) (memory_export input) old middle new c.in_ok-push_inherited.ensures a)
    (c.push_some.ensures input (memory_entry input) c.memory_export.ensures)
