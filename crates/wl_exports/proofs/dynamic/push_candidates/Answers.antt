use Rattle.std.proofs.Common.{◌≡◌, ◌∙◌, ◌<◌, List, length, get_or, ap, subst}
use Rattle.wl_linking.specs.Object.{Object}
use Rattle.wl_exports.specs.Exports.{candidates_in}
use Rattle.wl_exports.specs.steps.Exports.{takes}
use Rattle.wl_lists.proofs.Places.{item_at}
use Rattle.wl_exports.proofs.GrowLaws.{adds_object}
use Rattle.wl_exports.proofs.dynamic.push_candidates.Goals as goal

pub loop-object-preserved : goal.loop-object-preserved
loop-object-preserved c =
    let input = c.args.sources.now.input.now in
    let k = c.loop-object.object in
    let o = c.file-item.result in
    let objects : c.as_slice-file-items.result.now ≡ input.link.objects =
    c.as_slice-file-items.ensures.objects ∙ c.files.ensures.objects in
    let lt : k < length input.link.objects =
    subst (λ (os : List Object). k < length os) objects c.loop-object-test.true in
    let is : o ≡ get_or input.link.objects k o = c.file-item.is ∙ ap (λ (os : List Object). get_or os k o) objects in
    adds_object input (candidates_in input (takes c.args.wanted)) input.link.objects k o c.args.exports.now.items
    c.loop-object.exports.items c.push_symbols.new.exports.items (item_at input.link.objects k o lt is)
    c.loop-object.invariant c.in_ok-push_symbols.ensures
