use Rattle.std.proofs.Common.{take}
use Rattle.wl_exports.specs.Exports.{by_symbol}
use Rattle.wl_exports.specs.steps.Exports.{AddsExports}
use Rattle.wl_exports.proofs.EntryLaws.{wanted_candidate}
use Rattle.wl_exports.proofs.dynamic.push_symbols.Given as goal

abbrev pub invariant-loop-i : goal.invariant-loop-i
invariant-loop-i l =
    AddsExports l.sources.input.now
    (by_symbol (wanted_candidate l.sources.input.now l.wanted l.object l.file) 0 (take l.i l.file.symbols))
    l.initial.exports.items l.exports.items
