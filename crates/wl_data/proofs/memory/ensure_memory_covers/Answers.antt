use Rattle.std.proofs.Common.{◌≡◌, rules}
use Rattle.wl_data.specs.MemorySize.{needs_of, needed_bytes, raised_pages}
use Rattle.wl_data.proofs.StepLaws.{three_clear}
use Rattle.wl_data.proofs.memory.ensure_memory_covers.Goals as goal

pub returns-clause-clear : goal.returns-clause-clear
returns-clause-clear c =
    let needed : c.from-needed.result ≡ needed_bytes (needs_of c.args.data_end c.args.memory_base c.args.stack_size c.args.stack_first) = search rules in
    let pages : c.max-pages.result ≡ raised_pages c.args.memory.now.initial (needed_bytes (needs_of c.args.data_end c.args.memory_base c.args.stack_size c.args.stack_first)) c.args.initial_memory = search rules in
    three_clear _ _ _ c.in_ok-stack.ensures.clear (rw needed at c.in_ok-asked.ensures.clear) (rw pages at c.in_ok-most.ensures.clear)
