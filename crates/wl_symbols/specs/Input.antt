-- What is bound: the objects and the options of a link, and what is kept of it.
use Rattle.std.specs.Prelude.{ℕ, Bool, false}
use Rattle.wl_custom.specs.declared.symbols.WasmSymbolKind.{WasmSymbolKind}
use Rattle.wl_custom.specs.declared.symbols.WasmSymbolKind.TheVariants.{Func, Data, Global, Section, Event, Table}
use Rattle.wl_symbols.specs.Link.{Link}
use Rattle.wl_symbols.specs.Live.{Live, is_live}
use Rattle.wl_symbols.specs.declared.units.WasmGcUnit.{WasmGcUnit}
use Rattle.wl_symbols.specs.declared.units.WasmGcUnit.TheVariants.{FunctionImport, GlobalImport}

-- what is linked, and which of its units are kept
pub record Input : Type 0 where
  pub link : Link
  pub live : Live

-- the unit is kept
abbrev pub keeps : Input → ℕ → WasmGcUnit → Bool
keeps input object unit = is_live input.live (record { object = object; unit = unit })

-- the import slot of that kind and number is kept: slots of functions and of globals are units
abbrev pub keeps_slot : Input → WasmSymbolKind → ℕ → ℕ → Bool
keeps_slot input Func object number = keeps input object (FunctionImport number)
keeps_slot input Data object number = false
keeps_slot input Global object number = keeps input object (GlobalImport number)
keeps_slot input Section object number = false
keeps_slot input Event object number = false
keeps_slot input Table object number = false
