use Rattle.std.proofs.Common.{◌≡◌, ◌<◌, ◌∙◌, ap, sym, arith, length, get_or}
use Rattle.std.proofs.lemmas.List.{length-map, get_or-map}
use Rattle.wl_symbols.specs.Units.{counts_of, units_of, no_units}
use Rattle.wl_symbols.proofs.NumberingLaws.{NumberedTo-more, NumberedTo-all}
use Rattle.wl_symbols.proofs.unit_numbers.UnitNumbers.new.Goals as goal

pub loop-file-preserved : goal.loop-file-preserved
loop-file-preserved c =
    let files = c.as_slice-file-items.result.now in
    let lt : c.loop-file.file-index < length files = c.loop-file-test.true in
    let inside : c.loop-file.file-index < length (units_of files) = rw length-map lt in
    let here : get_or (units_of files) c.loop-file.file-index no_units ≡ c.counts_of-units.result =
    get_or-map counts_of files c.loop-file.file-index c.file-item.result no_units lt ∙ (ap counts_of (sym c.file-item.is) ∙ sym c.counts_of-units.ensures.counts) in
    rw (c.in_ok-push.ensures.items, c.in_ok-push-2.ensures.items)
    (NumberedTo-more (units_of files) c.loop-file.file-index c.loop-file.counts.items c.loop-file.bases.items c.loop-file.total c.counts_of-units.result _ c.loop-file.invariant inside here c.in_ok-total.ensures.sum c.in_ok-total.ensures.fits c.counts_of-units.ensures.small)

pub invariant_of-result : goal.invariant_of-result
invariant_of-result c =
    let files = c.as_slice-file-items.result.now in
    let end : length (units_of files) ≡ c.loop-file.file-index = rw length-map (omega arith) in
    (NumberedTo-all (units_of files) c.loop-file.file-index c.loop-file.counts.items c.loop-file.bases.items c.loop-file.total c.loop-file.invariant end).0
