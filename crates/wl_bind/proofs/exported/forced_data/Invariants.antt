use Rattle.std.proofs.Common.{◌≡◌, [], drop}
use Rattle.std.specs.List.{filter_map}
use Rattle.indexmap.specs.IndexSet.{insert_all}
use Rattle.wl_words.specs.Texts.{texts}
use Rattle.wl_bind.specs.ExportedData.{same_data}
use Rattle.wl_bind.specs.steps.Exported.{forced_alone}
use Rattle.wl_bind.proofs.exported.forced_data.Given as goal

abbrev pub invariant-loop-name : goal.invariant-loop-name
invariant-loop-name l =
    insert_all same_data l.list.keys
    (filter_map (forced_alone l.input) (texts (drop l.name-index l.name-items)))
    ≡ insert_all same_data []
    (filter_map (forced_alone l.input) l.input.link.args.export_symbols)
