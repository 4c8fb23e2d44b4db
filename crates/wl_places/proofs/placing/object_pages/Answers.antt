use Rattle.std.proofs.Common.{List, ap, arith}
use Rattle.wl_module.specs.Imports.{Imported}
use Rattle.wl_module.specs.declared.limits.MemoryType.{MemoryType}
use Rattle.wl_places.specs.steps.Placing.{imported_memories, most_pages}
use Rattle.wl_places.proofs.PlacingLaws.{both_pages}
use Rattle.wl_places.proofs.placing.object_pages.Goals as goal

pub returns : goal.returns
returns c =
    omega (
      arith,
      both_pages c.args.file.now,
      c.max.ensures,
      c.imported_pages-imported.ensures,
      c.defined_pages.ensures,
      ap (λ (is : List Imported). most_pages (imported_memories is)) c.imports.ensures,
      ap (λ (ms : List MemoryType). most_pages ms) c.memory_types.ensures,
    )
