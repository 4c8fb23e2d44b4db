use Rattle.wl_linking.proofs.TypeLaws.{types_short}
use Rattle.wl_linking.proofs.laws.types_are_short.Goals as goal

pub returns : goal.returns
returns c = types_short
