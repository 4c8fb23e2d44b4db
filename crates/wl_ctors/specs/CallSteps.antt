-- How the calls come to be.
use Rattle.std.specs.Prelude.{◌≡◌, ℕ, List, ◌++◌, length, Option, slice_get}
use Rattle.std.specs.List.{AllZip}
use Rattle.std.specs.Option.{option_map_or, option_and_then}
use Rattle.wl_module.specs.Types.{FunctionType}
use Rattle.wl_linking.specs.Object.{Object}
use Rattle.wl_custom.specs.Symbols.{Symbol as LinkedSymbol}
use Rattle.wl_custom.specs.declared.symbols.WasmSymbolKind.TheVariants.{Func}
use Rattle.wl_symbols.specs.SlotTargets.{own_number}
use Rattle.wl_symbols.specs.Input.{Input}
use Rattle.wl_ctors.specs.InitCalls.{InitFunction, IsInitCall}
use Rattle.wl_ctors.specs.declared.calls.InitCall.{InitCall}

-- the type of the function of that number that an object defines
abbrev pub type_of_own : Object → ℕ → Option FunctionType
type_of_own o number = option_and_then (slice_get o.types) (slice_get o.functions number)

-- the type of the function that the symbol of that number of an object defines
abbrev pub own_type : Object → ℕ → Option FunctionType
own_type o symbol =
    option_and_then
    (λ (s : LinkedSymbol). option_and_then (type_of_own o) (own_number Func o s.index))
    (slice_get o.symbols symbol)

-- how many results that has, and none where there is no such function
abbrev pub result_count : Object → ℕ → ℕ
result_count o symbol = option_map_or (λ (t : FunctionType). length t.results) (own_type o symbol) 0

-- the list grows by the calls of these functions
pub record AddsCalls (input : Input) (functions : List InitFunction) (old new : List InitCall)
    : Type 0 where
  pub more : List InitCall
  pub are : AllZip (IsInitCall input) functions more
  pub grown : new ≡ old ++ more
