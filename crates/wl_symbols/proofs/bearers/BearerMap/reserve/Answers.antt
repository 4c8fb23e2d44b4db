use Rattle.wl_symbols.proofs.bearers.BearerMap.reserve.Goals as goal

pub returns-clause-same : goal.returns-clause-same
returns-clause-same c = λ q. c.reserve.ensures.entries.2 (record { ref_ptr = (0, 0); now = q })
