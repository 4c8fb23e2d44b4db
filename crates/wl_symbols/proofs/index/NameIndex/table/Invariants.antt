use Rattle.wl_symbols.proofs.index.NameIndex.table.Given as goal

abbrev pub ghosts-table_uncounted : goal.ghosts-table_uncounted
ghosts-table_uncounted a = record { name = a.blank.name; parts = a.blank.parts }
