use Rattle.wl_module.proofs.SectionLaws.{module_stands}
use Rattle.wl_module.proofs.sections.sections_stand.Goals as goal

pub returns : goal.returns
returns c = module_stands
