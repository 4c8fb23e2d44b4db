use Rattle.std.proofs.lemmas.List.{drop_all}
use Rattle.wl_bind.proofs.exported.exported_addresses.Goals as goal

pub returns : goal.returns
returns c =
    let items = c.force_export_symbol_names-name-items.result.now in
    rw (drop_all c.loop-name.name-index items c.loop-name-test.false) at c.loop-name.invariant
