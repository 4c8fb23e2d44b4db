use Rattle.std.proofs.Common.{◌≡◌, [], ap}
use Rattle.wl_module.specs.Exports.{Exported}
use Rattle.wl_exports.proofs.NameLaws.{holds_next}
use Rattle.wl_exports.proofs.entries.names_of.Goals as goal

pub loop-export-preserved : goal.loop-export-preserved
loop-export-preserved c =
    let view = ap (λ (x : Exported). x.name) c.export.view_is in
    let is : c.export-item.result.name ≡ c.export.inside.name.now = cc in
    holds_next c.loop-export.names c.take_name.new.taken [] c.args.exports.now c.loop-export.export-index
    c.export-item.result c.export.inside.name.now c.loop-export-test.true c.export-item.is is
    c.in_ok-take_name.ensures.names c.loop-export.invariant
