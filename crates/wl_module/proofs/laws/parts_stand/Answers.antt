use Rattle.wl_module.proofs.PlaceLaws.{imports_stand, placed_imports_stand, exports_stand, globals_stand, bodies_stand, segments_stand, targeted_stand}
use Rattle.wl_module.proofs.laws.parts_stand.Goals as goal

pub returns : goal.returns
returns c = record {
  imports = imports_stand;
  placed_imports = placed_imports_stand;
  exports = exports_stand;
  globals = globals_stand;
  bodies = bodies_stand;
  segments = segments_stand;
  targeted_segments = targeted_stand;
}
