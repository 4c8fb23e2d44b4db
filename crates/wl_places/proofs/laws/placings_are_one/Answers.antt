use Rattle.std.proofs.Common.{◌∙◌, ap, sym}
use Rattle.wl_places.specs.Placing.{data_input, placing_of}
use Rattle.wl_places.proofs.laws.placings_are_one.Goals as goal

pub returns : goal.returns
returns c = λ input a b one other.
    let same = c.places_are_one.ensures (data_input input) a.places b.places one.laid other.laid in
    one.whole ∙ (ap (placing_of input) same ∙ sym other.whole)
