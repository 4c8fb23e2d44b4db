-- What the references of a link are bound to, and where its things stand in the output.
use Rattle.std.specs.Prelude.{◌≡◌}
use Rattle.wl_symbols.specs.Input.{Input}
use Rattle.wl_bind.specs.FunctionTypes.{stub_types}
use Rattle.wl_bind.specs.IndexMaps.{AreIndexMaps}
use Rattle.wl_bind.specs.MadeIndices.{AreMadeIndices}
use Rattle.wl_bind.specs.OutputTypes.{IsMerged}
use Rattle.wl_bind.specs.Resolutions.{resolutions, by_all_rules}
use Rattle.wl_bind.specs.Scan.{scan_of}
use Rattle.wl_bind.specs.Shared.{shared_of}
use Rattle.wl_bind.specs.declared.build.BoundIndices.{BoundIndices}

pub record IsBoundIndices (input : Input) (b : BoundIndices) : Type 0 where
  pub resolutions : b.resolutions ≡ resolutions input (by_all_rules input)
  pub scan : b.scan ≡ scan_of input
  pub stubs : b.stubs ≡ stub_types input
  pub shared : b.shared ≡ shared_of input
  pub indices : AreMadeIndices input b.indices
  pub types : IsMerged input b.types
  pub maps : AreIndexMaps input b.maps
