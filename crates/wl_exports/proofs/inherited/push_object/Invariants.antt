use Rattle.std.proofs.Common.{filter_map, take}
use Rattle.wl_exports.specs.steps.Exports.{AddsExports}
use Rattle.wl_exports.proofs.GrowLaws.{own_export}
use Rattle.wl_exports.proofs.inherited.push_object.Given as goal

abbrev pub invariant-loop-export : goal.invariant-loop-export
invariant-loop-export l =
    AddsExports l.sources.input.now
    (filter_map (own_export l.sources.input.now l.object l.file) (take l.export-index l.file.exports))
    l.initial.exports.items l.exports.items
