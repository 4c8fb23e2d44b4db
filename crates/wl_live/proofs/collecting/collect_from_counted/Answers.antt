use Rattle.wl_live.proofs.collecting.collect_from_counted.Goals as goal

pub returns-clause-steps : goal.returns-clause-steps
returns-clause-steps g c =
    rw (c.new-live.ensures, c.in_ok-marks-2.ensures) (c.in_ok-marks.ensures.steps c.in_ok-numbering.numbering)
