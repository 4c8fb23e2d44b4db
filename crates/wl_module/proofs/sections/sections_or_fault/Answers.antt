use Rattle.wl_module.proofs.SectionLaws.{frame_alternatives, module_alternatives}
use Rattle.wl_module.proofs.sections.sections_or_fault.Goals as goal

pub returns : goal.returns
returns c = record { headers = frame_alternatives; sections = module_alternatives }
