use Rattle.wl_exports.specs.Exports.{unless_made}
use Rattle.wl_exports.proofs.EntryLaws.{name_entry, names_next}
use Rattle.wl_exports.proofs.named.push_forced.Goals as goal

pub loop-name-preserved : goal.loop-name-preserved
loop-name-preserved c =
    let input = c.args.sources.now.input.now in
    let name = c.as_str.result.now in
    names_next input (unless_made input) c.force_export_symbol_names-name-items.result.now c.loop-name.name-index
    c.name-item.result name c.args.exports.now.items c.loop-name.exports.items c.push_some.new.exports.items
    c.loop-name-test.true c.name-item.is c.as_str.ensures.value c.loop-name.invariant
    (c.in_ok-push_some.ensures input (name_entry (unless_made input) name) c.forced_export.ensures)
