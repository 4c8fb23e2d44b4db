-- What of the output is known before it is known where its data lies.
use Rattle.std.specs.Prelude.{◌≤◌, ◌+◌, length}
use Rattle.wl_index.specs.declared.index.TheConstants.{MAX_ENTRIES}
use Rattle.wl_features.specs.Taken.{AreTaken}
use Rattle.wl_bind.specs.FunctionSpace.{function_space}
use Rattle.wl_bind.specs.GlobalSpace.{global_space}
use Rattle.wl_symbols.specs.Input.{Input}
use Rattle.wl_bind.specs.OutputTypes.{output_types}
use Rattle.wl_exports.specs.Interface.{IsInterface}
use Rattle.wl_exports.specs.Wrappers.{wrapped}
use Rattle.wl_plan.specs.steps.Bindings.{AreBindings}
use Rattle.wl_plan.specs.Functions.{AreOutputFunctions}
use Rattle.wl_plan.specs.declared.outline.Outline.{Outline}

-- there is room for the types, the functions and the globals of the output
pub record AreFew (input : Input) : Type 0 where
  pub types : length (output_types input) ≤ MAX_ENTRIES
  pub functions : length (function_space input) ≤ MAX_ENTRIES
  pub globals : length (global_space input) ≤ MAX_ENTRIES

-- there is room for the wrappers after the functions
abbrev pub HasWrapperRoom : Input → Type 0
HasWrapperRoom input = length (function_space input) + length (wrapped input) ≤ MAX_ENTRIES

-- it is that of the link
pub record HasOutline (input : Input) (o : Outline) : Type 0 where
  pub bindings : AreBindings input o.bindings
  pub functions : AreOutputFunctions input (output_types input) o.functions
  pub interface : IsInterface input o.interface
  pub features : AreTaken input.link o.features
