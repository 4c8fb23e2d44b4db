use Rattle.std.proofs.Common.{◌≡◌, ◌∙◌, ℕ, max, ap, sym, Some, slice_get}
use Rattle.std.proofs.lemmas.Option.{slice_get-get_or}
use Rattle.wl_module.specs.Imports.{Imported}
use Rattle.wl_bind.specs.Made.{table_minimum}
use Rattle.wl_plan.proofs.TableLaws.{minimum_done, minimum_more}
use Rattle.wl_plan.proofs.table.object_minimum.Goals as goal

pub loop-import-preserved : goal.loop-import-preserved
loop-import-preserved c =
    let items = c.imports-import-items.result.now in
    let k = c.loop-import.import-index in
    let i = c.import-item.result in
    let old = c.loop-import.size in
    let at : slice_get c.imports-import-items.result.now k ≡ Some i =
    slice_get-get_or items k i c.loop-import-test.true ∙ ap (λ (j : Imported). Some j) (sym c.import-item.is) in
    minimum_more items k i old c.max-size.result _ at
    (c.max-size.ensures ∙ ap (λ (n : ℕ). max n old) (c.table_minimum.ensures
    ∙ ap (λ (j : Imported). table_minimum j.entity) c.import.view_is)) c.loop-import.invariant

pub returns : goal.returns
returns c =
    minimum_done c.imports-import-items.result.now c.loop-import.import-index c.loop-import.size _
    c.loop-import-test.false c.loop-import.invariant
