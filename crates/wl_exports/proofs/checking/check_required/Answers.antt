use Rattle.std.proofs.Common.{◌≡◌, ◌∙◌, ap}
use Rattle.wl_words.specs.Texts.{texts}
use Rattle.wl_words.specs.declared.args.WasmArgs.{WasmArgs}
use Rattle.wl_exports.specs.steps.Checking.{IsSoundName}
use Rattle.wl_exports.proofs.EntryLaws.{name_in}
use Rattle.wl_exports.proofs.FaultLaws.{each_next, each_all}
use Rattle.wl_exports.proofs.checking.check_required.Goals as goal

pub check_asked-requires : goal.check_asked-requires
check_asked-requires c =
    let input = c.args.sources.now.input.now in
    let items = c.as_slice-name-items.result.now in
    let are : texts items ≡ input.link.args.required_export_symbols =
    c.as_slice-name-items.ensures ∙ ap (λ (a : WasmArgs). a.required_export_symbols) c.requires.args in
    record {
      sources = c.requires;
      asked = name_in items c.loop-name.name-index c.name-item.result c.as_str.result.now
          input.link.args.required_export_symbols c.loop-name-test.true c.name-item.is c.as_str.ensures.value are;
    }

pub loop-name-preserved : goal.loop-name-preserved
loop-name-preserved c =
    let input = c.args.sources.now.input.now in
    each_next (IsSoundName input) c.as_slice-name-items.result.now c.loop-name.name-index c.name-item.result
    c.as_str.result.now c.loop-name-test.true c.name-item.is c.as_str.ensures.value
    c.in_ok-check_asked.ensures.clear c.loop-name.invariant

pub returns-clause-clear : goal.returns-clause-clear
returns-clause-clear c =
    let input = c.args.sources.now.input.now in
    let items = c.as_slice-name-items.result.now in
    let are : texts items ≡ input.link.args.required_export_symbols =
    c.as_slice-name-items.ensures ∙ ap (λ (a : WasmArgs). a.required_export_symbols) c.requires.args in
    each_all (IsSoundName input) items c.loop-name.name-index input.link.args.required_export_symbols
    c.loop-name-test.false are c.loop-name.invariant
