use Rattle.std.proofs.Common.{◌≡◌, ◌∙◌, ◌<◌, List, length, get_or, ap, subst}
use Rattle.wl_module.specs.Exports.{Exported}
use Rattle.wl_exports.proofs.GrowLaws.{adds_next, own_export}
use Rattle.wl_exports.proofs.inherited.push_object.Goals as goal

pub loop-export-preserved : goal.loop-export-preserved
loop-export-preserved c =
    let input = c.args.sources.now.input.now in
    let i = c.loop-export.export-index in
    let x = c.export-item.result in
    let items : c.exports-export-items.result.now ≡ c.args.file.now.exports = c.exports-export-items.ensures in
    let lt : i < length c.args.file.now.exports =
    subst (λ (xs : List Exported). i < length xs) items c.loop-export-test.true in
    let is : x ≡ get_or c.args.file.now.exports i x =
    c.export-item.is ∙ ap (λ (xs : List Exported). get_or xs i x) items in
    adds_next input (own_export input c.args.object c.args.file.now) c.args.file.now.exports i x
    c.args.exports.now.items c.loop-export.exports.items c.push_some.new.exports.items lt is
    c.loop-export.invariant
    (c.in_ok-push_some.ensures input (own_export input c.args.object c.args.file.now x)
    (c.inherited_export.ensures c.args.file.now c.requires.here))
