use Rattle.std.proofs.Common.{◌≡◌, ◌∙◌, ◌<◌, length, Some, slice_get, sym, subst, arith, List}
use Rattle.wl_custom.specs.Symbols.{Symbol}
use Rattle.wl_linking.specs.Slots.{with_import_name}
use Rattle.wl_lists.proofs.Places.{item_at}
use Rattle.wl_linking.proofs.SlotLaws.{changed_length, unchanged_at, changed_more}
use Rattle.wl_linking.proofs.slots.name_symbols.Goals as goal

pub loop-i-preserved : goal.loop-i-preserved
loop-i-preserved c =
    let f = with_import_name c.args.functions.now c.args.globals.now in
    let xs = c.into_vec-list.result.items in
    let i = c.loop-i.i in
    let x = c.index_mut.result.now in
    let so = c.loop-i.invariant in
    let len = changed_length f xs i in
    let lt : i < length c.loop-i.list.items = rw so (omega (arith, len, c.loop-i-test.true)) in
    let here = item_at c.loop-i.list.items i x lt c.index_mut.ensures.value in
    let there : slice_get xs i ≡ Some x =
    sym (unchanged_at f xs i) ∙ subst (λ (l : List Symbol). slice_get l i ≡ Some x) so here in
    rw (c.name_by_import.ensures, so) (changed_more f xs i x there)
