use Rattle.std.proofs.Common.{ℕ, ◌≡◌, ◌<◌, Some, slice_get}
use Rattle.wl_symbols.specs.LinkerAddresses.{IsTooHigh}
use Rattle.wl_symbols.specs.declared.linker_symbol.WasmLinkerSymbol.{WasmLinkerSymbol}
use Rattle.wl_places.specs.Addresses.{linker_address}
use Rattle.wl_places.proofs.addresses.check_exported.Given as goal

abbrev pub invariant-loop-made : goal.invariant-loop-made
invariant-loop-made l =
    (k : ℕ) (m : WasmLinkerSymbol) → k < l.made-index → slice_get l.made-items k ≡ Some m
    → IsTooHigh (linker_address l.input l.placing m) → ⊥
