-- How functions of the output come to be.
use Rattle.std.specs.Prelude.{◌≡◌, ℕ, List, [], ◌∷◌, ◌++◌, Option, if◌then◌else◌}
use Rattle.std.specs.List.{AllZip}
use Rattle.std.specs.Option.{option_to_list}
use Rattle.wl_module.specs.Types.{FunctionType}
use Rattle.wl_symbols.specs.declared.linker_symbol.WasmLinkerSymbol.TheVariants.{CallCtors, InitTls}
use Rattle.wl_symbols.specs.declared.units.WasmGcUnit.TheVariants.{DefinedFunction}
use Rattle.wl_bind.specs.FunctionSpace.{FunctionEntry, FunctionOf, init_memory_part, made_function_part}
use Rattle.wl_symbols.specs.Input.{Input, keeps}
use Rattle.wl_bind.specs.OutputTypes.{output_types}
use Rattle.wl_bind.specs.declared.binding.FunctionTarget.TheVariants.{Defined}
use Rattle.wl_plan.specs.Functions.{IsOutputFunction}
use Rattle.wl_plan.specs.Origins.{PlannedFunction}

-- the function, where there is one, is all of these entries
pub record IsAllOf (input : Input) (entries : List FunctionEntry) (f : Option PlannedFunction)
    : Type 0 where
  pub are : AllZip (IsOutputFunction input (output_types input)) entries (option_to_list f)

-- the list grows by functions that are these entries
pub record AddsFunctions (input : Input) (entries : List FunctionEntry)
    (old new : List PlannedFunction) : Type 0 where
  pub more : List PlannedFunction
  pub are : AllZip (IsOutputFunction input (output_types input)) entries more
  pub grown : new ≡ old ++ more

-- a function of an object, where it is kept
abbrev pub own_function_part : Input → ℕ → ℕ → List FunctionEntry
own_function_part input object function =
    if keeps input object (DefinedFunction function) then FunctionOf (Defined object function) ∷ []
    else []

-- without parameters and results
abbrev pub plain_type : FunctionType
plain_type = record { params = []; results = [] }

-- what the linker makes by itself: what calls the constructors, what fills the block of a thread,
-- and what copies data for all threads
abbrev pub linker_functions : Input → List FunctionEntry
linker_functions input =
    made_function_part input CallCtors ++ made_function_part input InitTls ++ init_memory_part input
