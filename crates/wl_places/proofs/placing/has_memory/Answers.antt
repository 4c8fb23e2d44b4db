use Rattle.std.proofs.Common.{◌∙◌, ◌||◌, ◌==◌, Bool, length, not, ap, sym}
use Rattle.std.specs.List.{list_any}
use Rattle.std.proofs.lemmas.Bool.{or_left}
use Rattle.wl_places.specs.steps.Placing.{is_memory_import}
use Rattle.wl_places.proofs.PlacingLaws.{has_either}
use Rattle.wl_places.proofs.placing.has_memory.Goals as goal

pub returns-then-imports : goal.returns-then-imports
returns-then-imports c =
    let file = c.args.file.now in
    let some = sym c.imports_memory-imports.ensures ∙ c.if-imports.true in
    c.if-imports.true
    ∙ (sym (or_left (list_any is_memory_import file.imports) (not (length file.memories == 0)) some)
    ∙ has_either file.imports file.memories)

pub returns-else-imports : goal.returns-else-imports
returns-else-imports c =
    let file = c.args.file.now in
    let none = sym c.imports_memory-imports.ensures ∙ c.if-imports.false in
    c.defines_memory-defines.ensures
    ∙ (ap (λ (b : Bool). b || not (length file.memories == 0)) (sym none)
    ∙ has_either file.imports file.memories)
