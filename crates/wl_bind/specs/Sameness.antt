-- Definitions and functions that are the same.
use Rattle.std.specs.Prelude.{◌&&◌, Bool}
use Rattle.wl_symbols.specs.contracts.entry.DefinitionPartialEq.TheImpl as definition
use Rattle.wl_symbols.specs.declared.entry.Definition.{Definition}
use Rattle.wl_symbols.specs.contracts.linker_symbol.WasmLinkerSymbolPartialEq.TheImpl as made
use Rattle.wl_symbols.specs.declared.linker_symbol.WasmLinkerSymbol.{WasmLinkerSymbol}
use Rattle.wl_bind.specs.contracts.binding.FunctionTargetPartialEq.TheImpl as target
use Rattle.wl_bind.specs.declared.binding.FunctionTarget.{FunctionTarget}

-- the two are the same: a symbol of the same numbers, or the same thing that the linker makes
abbrev pub same_definition : Definition → Definition → Bool
same_definition = definition.ghosts.eq

-- the two are the same: a case and its numbers
abbrev pub same_target : FunctionTarget → FunctionTarget → Bool
same_target = target.ghosts.eq

-- both are the same
abbrev pub same_pair : Definition × FunctionTarget → Definition × FunctionTarget → Bool
same_pair a b = same_definition a.0 b.0 && same_target a.1 b.1

-- the two are the same thing that the linker makes
abbrev pub same_made : WasmLinkerSymbol → WasmLinkerSymbol → Bool
same_made = made.ghosts.eq
