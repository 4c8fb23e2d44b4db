-- What is called at the start (object file linking, version 2, "Linking Metadata Section").
use Rattle.std.specs.Prelude.{◌≡◌, ℕ, List, map, length, Some, slice_get}
use Rattle.std.specs.List.{AllZip}
use Rattle.std.specs.List.Sorted.{IsNonDecreasingBy, IsStableByKey}
use Rattle.std.specs.Ordering.{nat_cmp}
use Rattle.wl_module.specs.Types.{FunctionType}
use Rattle.wl_linking.specs.Object.{Object}
use Rattle.wl_custom.specs.declared.infos.WasmInitFunc.{WasmInitFunc}
use Rattle.wl_symbols.specs.Link.{Link}
use Rattle.wl_bind.specs.FunctionSpace.{FunctionOf, function_space}
use Rattle.wl_bind.specs.FunctionSymbols.{fun}
use Rattle.wl_bind.specs.FunctionTypes.{target_type}
use Rattle.wl_symbols.specs.Input.{Input}
use Rattle.wl_bind.specs.Parts.{by_object}
use Rattle.wl_bind.specs.declared.binding.FunctionTarget.{FunctionTarget}
use Rattle.wl_ctors.specs.declared.calls.InitCall.{InitCall}

-- ---- functions

-- a function that runs at the start, with the number of its object
abbrev pub InitFunction : Type 0
InitFunction = ℕ × WasmInitFunc

-- those of an object, in the order of its list
abbrev pub init_functions_of : ℕ → Object → List InitFunction
init_functions_of object o = map (λ (f : WasmInitFunc). (object, f)) o.init_funcs

-- those of all objects
abbrev pub init_functions : Link → List InitFunction
init_functions link = by_object init_functions_of 0 link.objects

-- ---- calls

-- the call of such a function: of what its symbol leads to, by the index in the output, with as
-- many results as that has
pub record IsInitCall (input : Input) (f : InitFunction) (call : InitCall) : Type 0 where
  pub priority : call.priority ≡ f.1.priority
  pub target : FunctionTarget
  pub leads : fun input f.0 f.1.symbol_index ≡ Some target
  pub index : slice_get (function_space input) call.index ≡ Some (FunctionOf target)
  pub ty : FunctionType
  pub typed : target_type input.link.objects target ≡ Some ty
  pub results : call.results ≡ length ty.results

-- ---- their order

-- the priority of a call
abbrev pub priority_of : InitCall → ℕ
priority_of call = call.priority

-- by ascending priority, and as they were where priorities are the same
pub record AreByPriority (all calls : List InitCall) : Type 0 where
  pub ascending : IsNonDecreasingBy priority_of calls
  pub stable : IsStableByKey priority_of nat_cmp all calls

-- these are the calls of the functions that run at the start, in their order
pub record AreInitCalls (input : Input) (calls : List InitCall) : Type 0 where
  pub all : List InitCall
  pub each : AllZip (IsInitCall input) (init_functions input.link) all
  pub order : AreByPriority all calls
