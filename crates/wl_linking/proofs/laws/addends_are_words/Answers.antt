use Rattle.wl_linking.proofs.BoundLaws.{addends_fit}
use Rattle.wl_linking.proofs.laws.addends_are_words.Goals as goal

pub returns : goal.returns
returns c = addends_fit
