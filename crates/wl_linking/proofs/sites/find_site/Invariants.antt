use Rattle.std.proofs.Common.{◌≡◌, ◌-◌, drop, length}
use Rattle.wl_linking.specs.Placing.{site_of}
use Rattle.wl_linking.proofs.sites.find_site.Given as goal

abbrev pub invariant-loop-unit : goal.invariant-loop-unit
invariant-loop-unit l = site_of l.unit (drop l.unit l.pieces) l.form l.offset ≡ site_of l.fn.from (drop l.fn.from l.pieces) l.form l.offset

abbrev pub decreases-loop-unit : goal.decreases-loop-unit
decreases-loop-unit l = length l.pieces - l.unit
