use Rattle.wl_tests.proofs.search_steps.takes.Given as goal

abbrev pub ghosts-steps_counted : goal.ghosts-steps_counted
ghosts-steps_counted a = record { name = a.blank.name; parts = a.blank.parts }
