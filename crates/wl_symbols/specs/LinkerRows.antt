-- The rows of the table of names that the linker makes.
use Rattle.std.specs.Prelude.{ℕ, List}
use Rattle.wl_custom.specs.declared.symbols.WasmSymbolKind.{WasmSymbolKind}
use Rattle.wl_custom.specs.declared.symbols.WasmSymbolKind.TheVariants as kind
use Rattle.wl_symbols.specs.declared.linker_symbol.MadeUnder.{MadeUnder}
use Rattle.wl_symbols.specs.declared.made_sort.MadeSort.{MadeSort}
use Rattle.wl_symbols.specs.declared.made_sort.MadeSort.TheVariants.{Function, Global, Data}

-- a name, what it stands for, and the options under which it exists
pub record LinkerRow : Type 0 where
  pub name : List ℕ
  pub sort : MadeSort
  pub under : MadeUnder

-- of which kind symbols of such a name are
abbrev pub kind_of_sort : MadeSort → WasmSymbolKind
kind_of_sort (Function f) = kind.Func
kind_of_sort (Global g) = kind.Global
kind_of_sort Data = kind.Data
