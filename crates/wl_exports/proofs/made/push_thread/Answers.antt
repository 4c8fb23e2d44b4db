use Rattle.std.specs.Option.{option_to_list}
use Rattle.wl_symbols.specs.LinkerNames.{name_of}
use Rattle.wl_symbols.specs.declared.linker_symbol.WasmLinkerSymbol.TheVariants as linker
use Rattle.wl_exports.specs.Exports.{thread_exports}
use Rattle.wl_exports.specs.steps.Exports.{AddsExports}
use Rattle.wl_exports.proofs.GrowLaws.{ok_then}
use Rattle.wl_exports.proofs.MadeLaws.{made_entry}
use Rattle.wl_exports.proofs.ThreadLaws.{thread_three}
use Rattle.wl_exports.proofs.made.push_thread.Goals as goal

pub returns : goal.returns
returns c =
    let input = c.args.sources.now.input.now in
    let old = c.args.exports.now.items in
    let one = c.push_some.new.exports.items in
    let two = c.push_some-2.new.exports.items in
    let new = c.push_some-3.new.exports.items in
    let size = made_entry input linker.TlsSize (name_of linker.TlsSize) in
    let align = made_entry input linker.TlsAlign (name_of linker.TlsAlign) in
    let init = made_entry input linker.InitTls (name_of linker.InitTls) in
    let a : AddsExports input (option_to_list size) old one = c.in_ok-push_some.ensures input size c.export_named.ensures in
    let b : AddsExports input (option_to_list align) one two =
    c.in_ok-push_some-2.ensures input align c.export_named-2.ensures in
    ok_then c.push_some-3.result (AddsExports input (option_to_list init) two new)
    (AddsExports input (thread_exports input) old new)
    (λ d. thread_three input old one two new a b d)
    (c.push_some-3.ensures input init c.export_named-3.ensures)
