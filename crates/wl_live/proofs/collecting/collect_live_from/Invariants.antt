use Rattle.wl_live.proofs.collecting.collect_live_from.Given as goal

abbrev pub ghosts-collect_from_uncounted : goal.ghosts-collect_from_uncounted
ghosts-collect_from_uncounted a = record { name = a.blank.name; parts = a.blank.parts }
