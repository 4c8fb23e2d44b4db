-- Where functions of the output are from, as clauses see it.
use Rattle.std.specs.Prelude.{ℕ, List}
use Rattle.wl_symbols.specs.declared.linker_symbol.WasmLinkerSymbol.{WasmLinkerSymbol}

-- An object defines it: the object's number, and the function's in it, where definitions alone are
-- counted. Or the linker makes it: under a name of its own, to copy data for all threads, in place
-- of a weak function of that name that nothing defines, or around an export of that name.
pub data Origin : Type 0 where
  OfObject : ℕ → ℕ → Origin
  OfLinker : WasmLinkerSymbol → Origin
  OfInitMemory : Origin
  OfStub : List ℕ → Origin
  OfWrapper : List ℕ → Origin

-- a function of the output that isn't imported: the number of its type, and where it is from
pub record PlannedFunction : Type 0 where
  pub type_index : ℕ
  pub origin : Origin
