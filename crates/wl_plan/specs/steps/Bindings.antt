-- What the references of a link are bound to.
use Rattle.std.specs.Prelude.{◌≡◌, ◌≤◌, length}
use Rattle.wl_index.specs.declared.index.TheConstants.{MAX_ENTRIES}
use Rattle.wl_bind.specs.FunctionSpace.{function_space}
use Rattle.wl_bind.specs.FunctionTypes.{stub_types}
use Rattle.wl_symbols.specs.Input.{Input}
use Rattle.wl_bind.specs.MadeIndices.{AreMadeIndices}
use Rattle.wl_bind.specs.OutputTypes.{output_types}
use Rattle.wl_bind.specs.References.{IsSettled}
use Rattle.wl_bind.specs.Scan.{scan_of}
use Rattle.wl_bind.specs.Shared.{shared_of}
use Rattle.wl_ctors.specs.InitCalls.{AreInitCalls}
use Rattle.wl_plan.specs.declared.bindings.Bindings.{Bindings}

-- the bindings and the calls are those of the link, and there is room in the function space
pub record AreBindings (input : Input) (b : Bindings) : Type 0 where
  pub settled : IsSettled input
  pub scan : b.scan ≡ scan_of input
  pub stubs : b.stubs ≡ stub_types input
  pub shared : b.shared ≡ shared_of input
  pub indices : AreMadeIndices input b.indices
  pub types : b.types ≡ output_types input
  pub calls : AreInitCalls input b.calls
  pub room : length (function_space input) ≤ MAX_ENTRIES
