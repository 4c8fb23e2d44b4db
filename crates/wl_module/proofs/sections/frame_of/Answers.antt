use Rattle.std.proofs.Common.{sym, ◌∙◌}
use Rattle.wl_module.proofs.SectionLaws.{other_header}
use Rattle.wl_module.proofs.sections.frame_of.Goals as goal

pub returns-then-ne : goal.returns-then-ne
returns-then-ne c =
    let other = sym c.ne.ensures ∙ c.if-ne.true in
    other_header c.args.bytes.now c.in-Ok.header.now c.take.new.self (rw c.new-reader.ensures at c.in-Ok.ensures.reads.found) (rw c.as_slice.ensures at other)
