use Rattle.std.proofs.Common.{◌≡◌, drop}
use Rattle.std.specs.List.{filter_map}
use Rattle.indexmap.specs.IndexSet.{insert_all}
use Rattle.wl_words.specs.Texts.{texts}
use Rattle.wl_bind.specs.ExportedAddresses.{data_named, exported_addresses}
use Rattle.wl_bind.specs.Sameness.{same_made}
use Rattle.wl_bind.proofs.exported.exported_addresses.Given as goal

abbrev pub invariant-loop-name : goal.invariant-loop-name
invariant-loop-name l =
    insert_all same_made l.list.keys
    (filter_map data_named (texts (drop l.name-index l.name-items)))
    ≡ exported_addresses l.args
