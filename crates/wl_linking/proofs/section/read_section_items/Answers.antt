use Rattle.std.proofs.lemmas.Result.{err_from_is_err_and}
use Rattle.wl_linking.specs.Sections.{has_memory}
use Rattle.wl_linking.proofs.section.read_section_items.Goals as goal

pub returns-in_err-read_own_memories-in-Memory : goal.returns-in_err-read_own_memories-in-Memory
returns-in_err-read_own_memories-in-Memory c =
    let p = err_from_is_err_and c.from_residual-in_err-read_own_memories-in-Memory.result c.from_residual-in_err-read_own_memories-in-Memory.ensures.1 in
    let imported = has_memory c.args.before.now.imports in
    rw (p.1, p.2, ← c.section.view_is, c.in-Memory.is) (rw c.as_slice-imports.ensures at c.in_err-read_own_memories-in-Memory.ensures.fault)

pub returns-in_err-read_targeted_segments-in-Data : goal.returns-in_err-read_targeted_segments-in-Data
returns-in_err-read_targeted_segments-in-Data c =
    let p = err_from_is_err_and c.from_residual-in_err-read_targeted_segments-in-Data.result c.from_residual-in_err-read_targeted_segments-in-Data.ensures.1 in
    rw (p.1, p.2, ← c.section.view_is, c.in-Data.is) c.in_err-read_targeted_segments-in-Data.ensures.reads.fault
