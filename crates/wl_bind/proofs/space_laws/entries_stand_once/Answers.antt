use Rattle.wl_bind.proofs.OnceSpaces.{functions_once, globals_once, output_types_once}
use Rattle.wl_bind.proofs.space_laws.entries_stand_once.Goals as goal

pub returns : goal.returns
returns c = record {
  functions = functions_once;
  globals = globals_once;
  types = output_types_once c.types_stand_once.ensures;
}
