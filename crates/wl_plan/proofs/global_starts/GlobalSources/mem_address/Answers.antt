use Rattle.wl_plan.proofs.GlobalLaws.{mem_never}
use Rattle.wl_plan.proofs.global_starts.GlobalSources.mem_address.Goals as goal

pub returns-clause-err : goal.returns-clause-err
returns-clause-err c =
    mem_never c.args.self.now.book.now.input.now c.args.self.now.book.now.placing.now
    c.args.definition c.of_definition.result c.requires.sources.low c.requires.listed
    c.of_definition.ensures.err
