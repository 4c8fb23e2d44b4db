use Rattle.std.proofs.Common.{take}
use Rattle.wl_bind.specs.Parts.{by_object}
use Rattle.wl_exports.specs.steps.Exports.{AddsExports, takes}
use Rattle.wl_exports.specs.Exports.{candidates_in}
use Rattle.wl_exports.proofs.dynamic.push_candidates.Given as goal

abbrev pub invariant-loop-object : goal.invariant-loop-object
invariant-loop-object l =
    AddsExports l.sources.input.now
    (by_object (candidates_in l.sources.input.now (takes l.wanted)) 0 (take l.object l.sources.input.now.link.objects))
    l.initial.exports.items l.exports.items
