use Rattle.std.proofs.Common.{take}
use Rattle.wl_bind.specs.Parts.{by_object}
use Rattle.wl_exports.specs.Exports.{object_exports}
use Rattle.wl_exports.specs.steps.Exports.{AddsExports}
use Rattle.wl_exports.proofs.inherited.push_inherited.Given as goal

abbrev pub invariant-loop-object : goal.invariant-loop-object
invariant-loop-object l =
    AddsExports l.sources.input.now
    (by_object (object_exports l.sources.input.now) 0 (take l.object l.sources.input.now.link.objects))
    l.initial.exports.items l.exports.items
