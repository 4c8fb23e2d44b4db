use Rattle.wl_data.proofs.PlacesLaws.{places_one}
use Rattle.wl_data.proofs.laws.places_are_one.Goals as goal

pub returns : goal.returns
returns c =
    places_one (record { unsigned = c.shortest_form_is_one.ensures.unsigned; signed = c.shortest_form_is_one.ensures.signed })
