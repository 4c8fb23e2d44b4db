-- Functions of another type than the one under which an object knows them.
use Rattle.std.specs.Prelude.{◌≡◌, ◌⊎◌, ℕ, true, false, Contains, Some, slice_get}
use Rattle.wl_module.specs.Types.{FunctionType, same_type}
use Rattle.wl_linking.specs.Object.{Object}
use Rattle.wl_custom.specs.RelocationTypes.{names_a_type}
use Rattle.wl_custom.specs.Symbols.{Symbol, is_undefined, is_function}
use Rattle.wl_linking.specs.declared.error.LinkError.{LinkError}
use Rattle.wl_linking.specs.declared.error.LinkError.TheVariants.{SignatureMismatch}
use Rattle.wl_custom.specs.declared.infos.WasmInitFunc.{WasmInitFunc}
use Rattle.wl_custom.specs.declared.symbols.WasmSymbolKind.TheVariants.{Func}
use Rattle.wl_symbols.specs.Entries.{symbol_in}
use Rattle.wl_symbols.specs.Input.{Input, keeps_slot}
use Rattle.wl_bind.specs.FunctionSymbols.{fun}
use Rattle.wl_bind.specs.FunctionTypes.{declared_type, target_type}
use Rattle.wl_symbols.specs.Relocations.{relocations}
use Rattle.wl_bind.specs.declared.binding.FunctionTarget.{FunctionTarget}
use Rattle.wl_symbols.specs.declared.relocated.Relocated.{Relocated}

-- a kept relocation names the symbol
pub record NamedByRelocation (input : Input) (object number : ℕ) : Type 0 where
  pub relocated : Relocated
  pub kept : Contains (relocations input) relocated
  pub by_symbol : names_a_type relocated.relocation.ty ≡ false
  pub object_is : relocated.object ≡ object
  pub number_is : relocated.relocation.index ≡ number

-- the symbol is undefined, on a slot that is kept
pub record OnKeptSlot (input : Input) (object number : ℕ) : Type 0 where
  pub symbol : Symbol
  pub is : symbol_in input.link.objects object number ≡ Some symbol
  pub undefined : is_undefined symbol ≡ true
  pub kept : keeps_slot input Func object symbol.index ≡ true

-- a function of its object that runs at the start has the symbol
pub record NamedByInit (input : Input) (object number : ℕ) : Type 0 where
  pub o : Object
  pub here : slice_get input.link.objects object ≡ Some o
  pub function : WasmInitFunc
  pub one : Contains o.init_funcs function
  pub number_is : function.symbol_index ≡ number

-- the symbols that are looked at
abbrev pub IsLookedAt : Input → ℕ → ℕ → Type 0
IsLookedAt input object number =
    NamedByRelocation input object number
    ⊎ (OnKeptSlot input object number ⊎ NamedByInit input object number)

-- such a function symbol leads to a function of an object, or to one that the linker makes, and
-- that has another type than the one under which the symbol's object knows it
pub record IsMismatch (input : Input) (e : LinkError) : Type 0 where
  pub object : ℕ
  pub number : ℕ
  pub looked_at : IsLookedAt input object number
  pub symbol : Symbol
  pub is : symbol_in input.link.objects object number ≡ Some symbol
  pub function : is_function symbol.kind ≡ true
  pub target : FunctionTarget
  pub leads : fun input object number ≡ Some target
  pub declared : FunctionType
  pub declared_is : declared_type input.link.objects object symbol ≡ Some declared
  pub actual : FunctionType
  pub actual_is : target_type input.link.objects target ≡ Some actual
  pub differ : same_type declared actual ≡ false
  pub told : e ≡ SignatureMismatch object number
