use Rattle.std.specs.Option.{option_to_list}
use Rattle.std.proofs.Common.{◌≡◌, ◌∙◌, true, sym}
use Rattle.wl_symbols.specs.LinkerNames.{name_of}
use Rattle.wl_symbols.specs.declared.linker_symbol.WasmLinkerSymbol.TheVariants as linker
use Rattle.wl_exports.specs.Exports.{stack_pointer_export}
use Rattle.wl_exports.specs.steps.Exports.{AddsExports, uses_mutable_globals}
use Rattle.wl_exports.proofs.GrowLaws.{ok_then}
use Rattle.wl_exports.proofs.MadeLaws.{made_entry}
use Rattle.wl_exports.proofs.ThreadLaws.{stack_one}
use Rattle.wl_exports.proofs.made.push_stack_pointer.Goals as goal

pub returns : goal.returns
returns c =
    let input = c.args.sources.now.input.now in
    let old = c.args.exports.now.items in
    let new = c.push_some.new.exports.items in
    let one = made_entry input linker.StackPointer (name_of linker.StackPointer) in
    let used : uses_mutable_globals input.link ≡ true =
    sym c.uses_mutable_globals.ensures ∙ c.if-not-uses_mutable_globals.false in
    ok_then c.push_some.result (AddsExports input (option_to_list one) old new)
    (AddsExports input (stack_pointer_export input) old new)
    (λ a. stack_one input old new used a)
    (c.push_some.ensures input one c.export_named.ensures)
