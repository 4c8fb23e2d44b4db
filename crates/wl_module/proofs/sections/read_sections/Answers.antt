use Rattle.wl_module.specs.Sections.{IsModule, FrameFault}
use Rattle.wl_module.proofs.SectionLaws.{module_alternatives, exactly}
use Rattle.wl_module.proofs.sections.read_sections.Goals as goal

pub returns : goal.returns
returns c = exactly (λ v. v.items) IsModule FrameFault module_alternatives c.args.bytes.now c.frame_of.result c.frame_of.ensures
