use Rattle.std.proofs.Common.{take}
use Rattle.wl_words.specs.Texts.{texts}
use Rattle.wl_exports.specs.Exports.{by_names, unless_made}
use Rattle.wl_exports.specs.steps.Exports.{AddsExports}
use Rattle.wl_exports.proofs.named.push_forced.Given as goal

abbrev pub invariant-loop-name : goal.invariant-loop-name
invariant-loop-name l =
    AddsExports l.sources.input.now
    (by_names (unless_made l.sources.input.now) (texts (take l.name-index l.name-items)))
    l.initial.exports.items l.exports.items
