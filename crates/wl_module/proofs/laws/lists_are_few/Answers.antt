use Rattle.wl_module.proofs.CountLaws.{sections_few, types_few, imports_few, placed_imports_few, indices_few, memories_few, globals_few, exports_few, bodies_few, segments_few, targeted_few}
use Rattle.wl_module.proofs.laws.lists_are_few.Goals as goal

pub returns : goal.returns
returns c = record {
  sections = sections_few;
  types = types_few;
  imports = imports_few;
  placed_imports = placed_imports_few;
  functions = indices_few;
  memories = memories_few;
  globals = globals_few;
  exports = exports_few;
  bodies = bodies_few;
  segments = segments_few;
  targeted_segments = targeted_few;
}
