-- While the maps of objects are made.
use Rattle.wl_bind.specs.FunctionSpace.{function_space, local_functions}
use Rattle.wl_bind.specs.GlobalSpace.{global_space, local_globals}
use Rattle.wl_symbols.specs.Input.{Input}
use Rattle.wl_bind.specs.steps.Numbering.{IsNumbering}
use Rattle.wl_bind.specs.OutputTypes.{AreTypeIndices}
use Rattle.wl_bind.specs.Parts.{AreIndicesOf, AreRows}
use Rattle.wl_bind.specs.declared.index_maps.MapSources.{MapSources}

-- all of it is that of the link
pub record AreMapSources (input : Input) (s : MapSources) : Type 0 where
  pub numbering : IsNumbering input s.numbering.now
  pub types : AreRows (AreTypeIndices input) 0 input.link.objects s.types.now
  pub functions : AreRows
      (λ object o. AreIndicesOf (function_space input) (local_functions input object o))
      0 input.link.objects s.functions.now
  pub globals : AreRows
      (λ object o. AreIndicesOf (global_space input) (local_globals input object o))
      0 input.link.objects s.globals.now
