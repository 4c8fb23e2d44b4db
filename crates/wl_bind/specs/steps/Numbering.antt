-- What the things of objects are numbered by.
use Rattle.std.specs.Prelude.{◌≡◌, ◌≤◌, length}
use Rattle.wl_index.specs.declared.index.TheConstants.{MAX_ENTRIES}
use Rattle.wl_symbols.specs.Input.{Input}
use Rattle.wl_bind.specs.FunctionSpace.{function_space}
use Rattle.wl_bind.specs.FunctionSymbols.{function_bindings}
use Rattle.wl_bind.specs.GlobalSpace.{global_space}
use Rattle.wl_bind.specs.MadeIndices.{AreMadeIndices}
use Rattle.wl_bind.specs.steps.OwnIndices.{own_firsts}
use Rattle.wl_bind.specs.Resolutions.{resolutions, by_all_rules}
use Rattle.wl_bind.specs.Scan.{scan_of}
use Rattle.wl_bind.specs.Shared.{shared_of}
use Rattle.wl_bind.specs.declared.numbering.Numbering.{Numbering}
use Rattle.wl_bind.specs.declared.own_indices.Own.TheVariants.{Functions, Globals}

-- all of it is that of the link, and there is room in both spaces
pub record IsNumbering (input : Input) (n : Numbering) : Type 0 where
  pub input_is : n.input.now ≡ input
  pub rows : n.rows.now ≡ resolutions input (by_all_rules input)
  pub scan : n.scan.now ≡ scan_of input
  pub shared : n.shared.now ≡ shared_of input
  pub bindings : n.bindings.now ≡ function_bindings input
  pub indices : AreMadeIndices input n.indices.now
  pub function_firsts : n.function_firsts.items ≡ own_firsts input Functions
  pub global_firsts : n.global_firsts.items ≡ own_firsts input Globals
  pub functions_fit : length (function_space input) ≤ MAX_ENTRIES
  pub globals_fit : length (global_space input) ≤ MAX_ENTRIES
