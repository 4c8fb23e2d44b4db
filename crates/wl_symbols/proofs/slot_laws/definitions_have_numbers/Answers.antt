use Rattle.wl_symbols.proofs.SlotNumberLaws.{definition_number}
use Rattle.wl_symbols.proofs.slot_laws.definitions_have_numbers.Goals as goal

pub returns : goal.returns
returns c = λ kind o k s whole here defines. definition_number kind o k s whole.object.fitting.names here defines
