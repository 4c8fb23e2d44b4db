use Rattle.wl_reach.proofs.search.reach.Given as goal

abbrev pub ghosts-reach_uncounted : goal.ghosts-reach_uncounted
ghosts-reach_uncounted a = record { name = a.blank.name; parts = a.blank.parts }
