use Rattle.std.proofs.Common.{◌∙◌}
use Rattle.wl_symbols.specs.Link.{link_of}
use Rattle.wl_symbols.proofs.RowLaws.{def_in}
use Rattle.wl_symbols.proofs.table.SymbolTable.definition_or_itself.Goals as goal

pub returns : goal.returns
returns c =
    c.unwrap_or.ensures ∙ rw (c.get.ensures, ← c.self.view_is)
    (def_in (link_of c.self.inside.files.now c.self.inside.args.now) c.self.inside.definitions.rows c.args.object c.args.symbol
    c.self.invariant.rows_are)
