use Rattle.wl_linking.proofs.SiteLaws.{apart_from_neighbours}
use Rattle.wl_linking.proofs.sites.are_apart.Goals as goal

pub returns : goal.returns
returns c = apart_from_neighbours c.args.relocations.now c.loop-i.i c.requires c.loop-i-test.false c.loop-i.invariant
