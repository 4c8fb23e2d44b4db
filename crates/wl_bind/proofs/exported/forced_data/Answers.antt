use Rattle.std.proofs.Common.{◌≡◌, ◌∙◌, [], ap, sym}
use Rattle.std.proofs.lemmas.List.{drop_all}
use Rattle.std.specs.List.{filter_map}
use Rattle.indexmap.specs.IndexSet.{insert_all}
use Rattle.wl_bind.specs.ExportedData.{same_data, is_dynamic, forced_by}
use Rattle.wl_bind.specs.steps.Exported.{forced_alone}
use Rattle.wl_bind.proofs.ExportLaws.{all_apart}
use Rattle.wl_bind.proofs.exported.forced_data.Goals as goal

pub returns : goal.returns
returns c =
    let input = c.args.input.now in
    let names = input.link.args.export_symbols in
    let items = c.force_export_symbol_names-name-items.result.now in
    let built : c.loop-name.list.keys
    ≡ insert_all same_data [] (filter_map (forced_alone input) names) =
    rw (drop_all c.loop-name.name-index items c.loop-name-test.false) at c.loop-name.invariant in
    built ∙ ap (insert_all same_data []) (sym (all_apart (is_dynamic input) (forced_by input) names))
