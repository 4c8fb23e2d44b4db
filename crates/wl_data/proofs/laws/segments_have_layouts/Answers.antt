use Rattle.wl_data.proofs.PlacesLaws.{places_for}
use Rattle.wl_data.proofs.laws.segments_have_layouts.Goals as goal

pub returns : goal.returns
returns c = places_for
