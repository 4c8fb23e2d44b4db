use Rattle.std.proofs.Common.{◌≡◌, sym, ◌∙◌}
use Rattle.std.specs.Int.{next_multiple_of}
use Rattle.wl_data.specs.Layouts.{block_alignment}
use Rattle.wl_data.proofs.Multiples.{least_found}
use Rattle.wl_data.proofs.LayoutLaws.{block_passes, memory_passes, block_stands, memory_stands, some_alignment}
use Rattle.wl_data.proofs.layout.stand.Goals as goal

pub returns-in_default : goal.returns-in_default
returns-in_default c =
    block_passes c.args.pass c.args.segment.now c.args.frontier (sym c.is_for_block.ensures ∙ c.if-is_for_block.true) c.requires.aligned
    (rw (c.block_alignment.ensures, c.size.ensures) at (c.in_default.ensures))

pub returns-then-is_for_block : goal.returns-then-is_for_block
returns-then-is_for_block c =
    let h = c.in-Some.ensures in
    let at : c.in-Some.place ≡ next_multiple_of c.args.frontier.block (block_alignment c.args.segment.now) = rw (← c.block_alignment.ensures) h.0 in
    block_stands c.args.pass c.args.segment.now c.args.frontier c.in-Some.place c.in-Some.end (sym c.is_for_block.ensures ∙ c.if-is_for_block.true)
    (rw at (least_found (block_alignment c.args.segment.now) c.args.frontier.block (some_alignment c.args.segment.now c.requires.aligned))) (rw (← c.size.ensures) h.1)

pub returns-in_default-stretch_behind : goal.returns-in_default-stretch_behind
returns-in_default-stretch_behind c =
    memory_passes c.args.pass c.args.segment.now c.args.frontier (sym c.is_for_block.ensures ∙ c.if-is_for_block.false) (sym c.is_for_memory.ensures ∙ c.if-is_for_memory.true) c.requires.aligned
    (rw (c.alignment.ensures, c.size-then-is_for_memory.ensures) at (c.in_default-stretch_behind.ensures))

pub returns-then-is_for_memory : goal.returns-then-is_for_memory
returns-then-is_for_memory c =
    let h = c.in-Some-stretch_behind.ensures in
    let at : c.in-Some-stretch_behind.place ≡ next_multiple_of c.args.frontier.memory c.args.segment.now.alignment = rw (← c.alignment.ensures) h.0 in
    memory_stands c.args.pass c.args.segment.now c.args.frontier c.in-Some-stretch_behind.place c.in-Some-stretch_behind.end (sym c.is_for_block.ensures ∙ c.if-is_for_block.false) (sym c.is_for_memory.ensures ∙ c.if-is_for_memory.true)
    (rw at (least_found c.args.segment.now.alignment c.args.frontier.memory c.requires.aligned)) (rw (← c.size-then-is_for_memory.ensures) h.1)
