use Rattle.wl_symbols.proofs.SlotCaseLaws.{target_cases}
use Rattle.wl_symbols.proofs.slot_laws.targets_by_cases.Goals as goal

pub returns : goal.returns
returns c = target_cases
