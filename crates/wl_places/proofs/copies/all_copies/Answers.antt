use Rattle.std.proofs.Common.{◌≡◌, get_or, length}
use Rattle.wl_data.specs.DataPlaces.{in_one_row}
use Rattle.wl_places.specs.Copies.{is_copied}
use Rattle.wl_places.proofs.CopyLaws.{rows_count, rows_more}
use Rattle.wl_places.proofs.copies.all_copies.Goals as goal

pub loop-object-preserved : goal.loop-object-preserved
loop-object-preserved c =
    let rows = c.args.layouts.now in
    let k = c.loop-object.object-index in
    let row = c.as_slice-list.result.now in
    let is : row ≡ get_or rows k row = rw (c.as_slice-list.ensures) c.object-item.is in
    record {
      count = rows_count rows k c.loop-object.first (length (in_one_row rows)) row c.loop-object-test.true is
          c.loop-object.invariant.count;
      so_far = rows_more (is_copied c.args.copied) rows k c.loop-object.first row c.loop-object.copies.items
          c.push_copies.new.copies.items _ c.loop-object-test.true is c.in_ok-push_copies.ensures
          c.loop-object.invariant.so_far;
    }
