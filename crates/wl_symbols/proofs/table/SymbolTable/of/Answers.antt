use Rattle.std.proofs.Common.{◌∙◌}
use Rattle.wl_symbols.specs.Link.{link_of}
use Rattle.wl_symbols.specs.Adding.{firsts_in}
use Rattle.wl_symbols.proofs.RowLaws.{rows_by}
use Rattle.wl_symbols.proofs.table.SymbolTable.of.Goals as goal

pub invariant_of-result : goal.invariant_of-result
invariant_of-result g c =
    rw c.finish.ensures (record {
      holds = c.requires;
      rows_are = c.in_ok-definitions.ensures.rows ∙ rows_by (link_of c.args.files.now c.args.args.now) (firsts_in c.args.names.names.firsts) c.requires;
    })
