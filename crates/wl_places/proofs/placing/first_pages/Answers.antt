use Rattle.std.proofs.Common.{arith}
use Rattle.wl_places.proofs.PlacingLaws.{objects_below}
use Rattle.wl_places.proofs.placing.first_pages.Goals as goal

pub returns-then-any_defines_memory-clause-few : goal.returns-then-any_defines_memory-clause-few
returns-then-any_defines_memory-clause-few c =
    omega (arith, c.all_pages-pages.ensures, objects_below c.memories_are_small.ensures c.args.files.now c.requires)

pub returns-else-any_defines_memory-clause-few : goal.returns-else-any_defines_memory-clause-few
returns-else-any_defines_memory-clause-few c =
    omega (arith, c.all_pages-pages.ensures, c.max.ensures, objects_below c.memories_are_small.ensures c.args.files.now c.requires)
