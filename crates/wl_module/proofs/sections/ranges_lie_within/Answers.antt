use Rattle.wl_module.proofs.SectionLaws.{frame_within}
use Rattle.wl_module.proofs.sections.ranges_lie_within.Goals as goal

pub returns : goal.returns
returns c = frame_within
