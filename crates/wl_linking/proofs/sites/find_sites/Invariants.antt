use Rattle.wl_linking.proofs.SiteLaws.{PlacesOn}
use Rattle.wl_linking.proofs.sites.find_sites.Given as goal

abbrev pub invariant-loop-relocation : goal.invariant-loop-relocation
invariant-loop-relocation l = PlacesOn l.pieces l.relocations l.relocation-index l.unit l.sites.items
