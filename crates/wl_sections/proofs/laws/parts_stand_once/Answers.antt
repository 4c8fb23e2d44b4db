use Rattle.wl_sections.proofs.PartLaws.{parts_once}
use Rattle.wl_sections.proofs.laws.parts_stand_once.Goals as goal

pub returns : goal.returns
returns c = parts_once
