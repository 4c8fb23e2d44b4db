use Rattle.std.proofs.Common.{refl}
use Rattle.wl_bind.proofs.scanning.Walk.add_entries.Goals as goal

pub returns : goal.returns
returns c = rw (c.in_ok-add_some.ensures, c.in_ok-add_some-2.ensures, c.in_ok-add_some-3.ensures) refl
