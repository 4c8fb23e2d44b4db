use Rattle.wl_data.proofs.OrderLaws.{places_in_order}
use Rattle.wl_data.proofs.RangeLaws.{order_shares_nothing}
use Rattle.wl_data.proofs.PlacesLaws.{memory_stands_apart, block_stands_apart}
use Rattle.wl_data.proofs.laws.places_stand_apart.Goals as goal

pub returns-clause-order : goal.returns-clause-order
returns-clause-order c = places_in_order

pub returns-clause-memory : goal.returns-clause-memory
returns-clause-memory c = memory_stands_apart

pub returns-clause-block : goal.returns-clause-block
returns-clause-block c = block_stands_apart

pub returns-clause-nothing : goal.returns-clause-nothing
returns-clause-nothing c = λ start end ranges. order_shares_nothing start ranges end
