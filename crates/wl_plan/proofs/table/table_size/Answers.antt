use Rattle.std.proofs.Common.{◌≡◌, ◌∙◌, ℕ, max, ap, sym, Some, slice_get}
use Rattle.std.proofs.lemmas.Option.{slice_get-get_or}
use Rattle.wl_linking.specs.Object.{Object}
use Rattle.wl_plan.proofs.TableLaws.{size_done, size_more}
use Rattle.wl_plan.proofs.table.table_size.Goals as goal

pub loop-file-preserved : goal.loop-file-preserved
loop-file-preserved c =
    let items = c.as_slice-file-items.result.now in
    let k = c.loop-file.file-index in
    let o = c.file-item.result in
    let old = c.loop-file.size in
    let at : slice_get c.as_slice-file-items.result.now k ≡ Some o =
    slice_get-get_or items k o c.loop-file-test.true ∙ ap (λ (p : Object). Some p) (sym c.file-item.is) in
    size_more items k o old c.max-size.result _ at
    (c.max-size.ensures ∙ ap (λ (n : ℕ). max n old) c.object_minimum.ensures) c.loop-file.invariant

pub returns : goal.returns
returns c =
    size_done c.as_slice-file-items.result.now c.loop-file.file-index c.loop-file.size _ c.loop-file-test.false
    c.loop-file.invariant
