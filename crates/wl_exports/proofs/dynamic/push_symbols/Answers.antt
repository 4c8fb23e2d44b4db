use Rattle.std.proofs.Common.{◌≡◌, ◌∙◌, ◌<◌, List, length, get_or, ap, subst}
use Rattle.wl_custom.specs.Symbols.{Symbol as LinkedSymbol}
use Rattle.wl_lists.proofs.Places.{item_at}
use Rattle.wl_exports.proofs.EntryLaws.{adds_symbol, wanted_candidate}
use Rattle.wl_exports.proofs.dynamic.push_symbols.Goals as goal

pub loop-i-preserved : goal.loop-i-preserved
loop-i-preserved c =
    let input = c.args.sources.now.input.now in
    let i = c.loop-i.i in
    let s = c.symbol-item.result in
    let items : c.symbols-symbol-items.result.now ≡ c.args.file.now.symbols = c.symbols-symbol-items.ensures in
    let lt : i < length c.args.file.now.symbols =
    subst (λ (xs : List LinkedSymbol). i < length xs) items c.loop-i-test.true in
    let is : s ≡ get_or c.args.file.now.symbols i s =
    c.symbol-item.is ∙ ap (λ (xs : List LinkedSymbol). get_or xs i s) items in
    let f = wanted_candidate input c.args.wanted c.args.object c.args.file.now in
    let at = item_at c.args.file.now.symbols i s lt is in
    adds_symbol input f c.args.file.now.symbols i s c.args.exports.now.items c.loop-i.exports.items
    c.push_some.new.exports.items at c.loop-i.invariant
    (c.in_ok-push_some.ensures input (f i s)
    (c.candidate_export-export.ensures c.args.file.now c.requires.here at))
