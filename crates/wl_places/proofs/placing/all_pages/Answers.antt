use Rattle.std.proofs.Common.{◌≡◌, List, arith, max}
use Rattle.std.specs.List.{flat_map}
use Rattle.wl_linking.specs.Object.{Object}
use Rattle.wl_bind.specs.Made.{greatest}
use Rattle.wl_places.specs.Placing.{least_pages}
use Rattle.wl_places.proofs.PlacingLaws.{greatest_more, objects_one}
use Rattle.wl_places.proofs.placing.all_pages.Goals as goal

pub loop-file-preserved : goal.loop-file-preserved
loop-file-preserved c =
    let more : c.max-pages.result ≡ max c.loop-file.pages (greatest (least_pages c.file-item.result)) =
    omega (arith, c.max-pages.ensures, c.object_pages.ensures) in
    greatest_more (λ (os : List Object). greatest (flat_map least_pages os)) (λ (o : Object). greatest (least_pages o)) objects_one
    c.args.files.now c.loop-file.file-index c.file-item.result c.loop-file.pages c.max-pages.result
    (greatest (flat_map least_pages c.args.files.now)) c.loop-file-test.true c.file-item.is more c.loop-file.invariant
