-- The indices of what the linker makes.
use Rattle.std.specs.Prelude.{◌≡◌, ℕ, false, Some, slice_get, MatchOption, Option}
use Rattle.wl_custom.specs.declared.symbols.WasmSymbolKind.{WasmSymbolKind}
use Rattle.wl_custom.specs.declared.symbols.WasmSymbolKind.TheVariants.{Func, Data, Global, Section, Event, Table}
use Rattle.wl_symbols.specs.LinkerNames.{kind_of}
use Rattle.wl_symbols.specs.declared.linker_symbol.WasmLinkerSymbol.{WasmLinkerSymbol}
use Rattle.wl_symbols.specs.Input.{Input}
use Rattle.wl_bind.specs.Made.{linker_needs, is_made}
use Rattle.wl_bind.specs.ExportedAddresses.{exported_addresses}
use Rattle.wl_bind.specs.ExportedData.{dynamic_data, forced_data}
use Rattle.wl_bind.specs.FunctionSpace.{FunctionOf, function_parts, function_space}
use Rattle.wl_bind.specs.GlobalSpace.{GlobalOf, AddressOf, global_parts, global_space}
use Rattle.wl_bind.specs.Parts.{AreStarts}
use Rattle.wl_bind.specs.declared.binding.FunctionTarget.TheVariants as function
use Rattle.wl_bind.specs.declared.binding.GlobalTarget.TheVariants as global
use Rattle.wl_bind.specs.declared.exported.ExportedData.{ExportedData}
use Rattle.wl_bind.specs.declared.indices.LinkerDefinedIndices.{LinkerDefinedIndices}

-- the data that is exported
pub record AreExported (input : Input) (e : ExportedData) : Type 0 where
  pub addresses : e.addresses.keys ≡ exported_addresses input.link.args
  pub dynamic : e.dynamic ≡ dynamic_data input
  pub forced : e.forced.keys ≡ forced_data input

-- what is asked for, where the parts of the two spaces begin, and what is exported
pub record AreMadeIndices (input : Input) (i : LinkerDefinedIndices) : Type 0 where
  pub needs : i.needs ≡ linker_needs input
  pub functions : AreStarts (function_parts input) i.functions
  pub globals : AreStarts (global_parts input) i.globals
  pub exported : AreExported input i.exported

-- the thing stands at the place, in the space of its kind; data stands there by its address
abbrev pub StandsAt : Input → WasmLinkerSymbol → WasmSymbolKind → ℕ → Type 0
StandsAt input m Func place =
    slice_get (function_space input) place ≡ Some (FunctionOf (function.Made m))
StandsAt input m Data place = slice_get (global_space input) place ≡ Some (AddressOf m)
StandsAt input m Global place =
    slice_get (global_space input) place ≡ Some (GlobalOf (global.Made m))
StandsAt input m Section place = ⊥
StandsAt input m Event place = ⊥
StandsAt input m Table place = ⊥

-- its index where the output has it
abbrev pub IsMadeIndex : Input → WasmLinkerSymbol → Option ℕ → Type 0
IsMadeIndex input m index =
    MatchOption index (is_made input m ≡ false) (StandsAt input m (kind_of m))
