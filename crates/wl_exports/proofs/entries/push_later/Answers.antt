use Rattle.std.proofs.Common.{◌++◌, List}
use Rattle.wl_exports.specs.Exports.{ExportEntry, entry_export, thread_exports, made_exports, forced_exports, dynamic_exports, later_exports}
use Rattle.wl_exports.specs.steps.Exports.{AddsExports}
use Rattle.wl_exports.proofs.GrowLaws.{adds_more, ok_then}
use Rattle.wl_exports.proofs.entries.push_later.Goals as goal

pub returns : goal.returns
returns c =
    let input = c.args.sources.now.input.now in
    let old = c.args.exports.now.items in
    let one = c.push_entry.new.exports.items in
    let two = c.push_thread.new.exports.items in
    let three = c.push_made.new.exports.items in
    let four = c.push_forced.new.exports.items in
    let new = c.push_dynamic.new.exports.items in
    let entry : List ExportEntry = entry_export input in
    let thread : List ExportEntry = thread_exports input in
    let made : List ExportEntry = made_exports input in
    let forced : List ExportEntry = forced_exports input in
    let dynamic : List ExportEntry = dynamic_exports input in
    ok_then c.push_dynamic.result (AddsExports input dynamic four new)
    (AddsExports input (later_exports input) old new)
    (λ a. adds_more input (((entry ++ thread) ++ made) ++ forced) dynamic old four new
    (adds_more input ((entry ++ thread) ++ made) forced old three four
    (adds_more input (entry ++ thread) made old two three
    (adds_more input entry thread old one two c.in_ok-push_entry.ensures c.in_ok-push_thread.ensures)
    c.in_ok-push_made.ensures) c.in_ok-push_forced.ensures) a)
    c.push_dynamic.ensures
