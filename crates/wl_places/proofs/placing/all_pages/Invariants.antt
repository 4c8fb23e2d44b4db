use Rattle.std.proofs.Common.{◌≡◌, drop, max}
use Rattle.std.specs.List.{flat_map}
use Rattle.wl_bind.specs.Made.{greatest}
use Rattle.wl_places.specs.Placing.{least_pages}
use Rattle.wl_places.proofs.placing.all_pages.Given as goal

abbrev pub invariant-loop-file : goal.invariant-loop-file
invariant-loop-file l =
    max l.pages (greatest (flat_map least_pages (drop l.file-index l.files)))
    ≡ greatest (flat_map least_pages l.files)
