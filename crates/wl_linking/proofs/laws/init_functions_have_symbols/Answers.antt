use Rattle.wl_linking.proofs.InitLaws.{init_has_symbol}
use Rattle.wl_linking.proofs.laws.init_functions_have_symbols.Goals as goal

pub returns : goal.returns
returns c = init_has_symbol
