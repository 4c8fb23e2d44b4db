use Rattle.std.proofs.Common.{◌≡◌, ◌∙◌, refl}
use Rattle.wl_symbols.specs.Entries.{entries_of, firsts_of}
use Rattle.wl_symbols.proofs.table.SymbolTable.lookup.Goals as goal

pub returns : goal.returns
returns c =
    let found : c.firsts.result ≡ firsts_of c.args.name.now (entries_of 0 c.self.inside.files.now) = c.firsts.ensures ∙ c.self.invariant.holds c.args.name.now in
    c.choose.ensures ∙ rw (found, ← c.self.view_is) refl
