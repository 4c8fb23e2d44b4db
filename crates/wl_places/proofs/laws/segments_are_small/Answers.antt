use Rattle.wl_places.specs.Placing.{data_input, data_options}
use Rattle.wl_places.proofs.KeptDataLaws.{all_can}
use Rattle.wl_places.proofs.PlacingLaws.{numbers_few}
use Rattle.wl_places.proofs.SmallLaws.{all_small}
use Rattle.wl_places.proofs.laws.segments_are_small.Goals as goal

pub returns-clause-placed : goal.returns-clause-placed
returns-clause-placed c = λ input whole.
    all_can c.segments_keep_bounds.ensures.spanned c.segments_keep_bounds.ensures.aligned input 0 input.link.objects whole

pub returns-clause-small : goal.returns-clause-small
returns-clause-small c = λ input g whole placed.
    all_small c.segments_have_layouts.ensures c.segments_keep_bounds.ensures.spanned
    c.segments_keep_bounds.ensures.aligned input g whole placed

pub returns-clause-few : goal.returns-clause-few
returns-clause-few c = λ input g clear placed.
    numbers_few input (data_options input) g.places.layouts clear
    (c.segments_have_layouts.ensures (data_input input) g.places placed.laid)
