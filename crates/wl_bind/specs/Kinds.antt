-- Symbols of another kind than their use asks for.
use Rattle.std.specs.Prelude.{◌≡◌, ◌⊎◌, ℕ, ◌&&◌, ◌||◌, Bool, true, false, not, List, [], Contains, Option, Some, None, slice_get}
use Rattle.std.specs.Option.{option_map_or}
use Rattle.wl_module.specs.Types.{FunctionType}
use Rattle.wl_linking.specs.Object.{Object}
use Rattle.wl_custom.specs.RelocationTypes.{names_a_type, takes_kind}
use Rattle.wl_custom.specs.Symbols.{Symbol as LinkedSymbol, is_data, is_defined, is_defined_function}
use Rattle.wl_linking.specs.declared.error.LinkError.{LinkError}
use Rattle.wl_linking.specs.declared.error.LinkError.TheVariants.{WrongKind}
use Rattle.wl_custom.specs.declared.infos.WasmInitFunc.{WasmInitFunc}
use Rattle.wl_symbols.specs.Entries.{symbol_in}
use Rattle.wl_symbols.specs.LinkerNames.{kind_of}
use Rattle.wl_symbols.specs.declared.entry.Definition.{Definition}
use Rattle.wl_symbols.specs.declared.entry.Definition.TheVariants.{Symbol, Made}
use Rattle.wl_symbols.specs.Input.{Input}
use Rattle.wl_bind.specs.FunctionSymbols.{fun}
use Rattle.wl_bind.specs.FunctionTypes.{target_type}
use Rattle.wl_symbols.specs.Relocations.{relocations}
use Rattle.wl_bind.specs.Scan.{symbol_of, definition_of}
use Rattle.wl_symbols.specs.declared.relocated.Relocated.{Relocated}

-- ---- relocations

-- an object defines it as something else than data, or it is something else that the linker makes
abbrev pub is_no_data : Input → Definition → Bool
is_no_data input (Symbol object number) =
    option_map_or
    (λ (s : LinkedSymbol). is_defined s && not (is_data s.kind))
    (symbol_in input.link.objects object number) false
is_no_data input (Made m) = not (is_data (kind_of m))

-- the relocation doesn't take that symbol: one of another kind, or data that is defined as
-- something else
abbrev pub is_wrong_use : Input → Relocated → LinkedSymbol → Bool
is_wrong_use input r s =
    not (takes_kind r.relocation.ty s.kind)
    || (is_data s.kind && is_no_data input (definition_of input r))

-- a kept relocation that names a symbol, and doesn't take it
pub record IsWrongUse (input : Input) (e : LinkError) : Type 0 where
  pub relocated : Relocated
  pub kept : Contains (relocations input) relocated
  pub by_symbol : names_a_type relocated.relocation.ty ≡ false
  pub symbol : LinkedSymbol
  pub names : symbol_of input relocated ≡ Some symbol
  pub wrong : is_wrong_use input relocated symbol ≡ true
  pub told : e ≡ WrongKind relocated.object relocated.relocation.index

-- ---- functions that run at the start

-- a function of that type takes parameters; where there is none, nothing does
abbrev pub takes_parameters : Option FunctionType → Bool
takes_parameters None = false
takes_parameters (Some t) = takes t.params
  where
    takes : {X : Type 0} → List X → Bool
    takes [] = false
    takes _ = true

-- what the function that the symbol leads to takes
abbrev pub leads_to_parameters : Input → ℕ → ℕ → Bool
leads_to_parameters input object number =
    option_map_or
    (λ f. takes_parameters (target_type input.link.objects f))
    (fun input object number) false

-- such a symbol is no function that its object defines, or leads to one that takes parameters
abbrev pub is_wrong_init : Input → ℕ → ℕ → LinkedSymbol → Bool
is_wrong_init input object number s =
    not (is_defined_function s) || leads_to_parameters input object number

-- an object's function that runs at the start is such a symbol
pub record IsWrongInit (input : Input) (e : LinkError) : Type 0 where
  pub object : ℕ
  pub o : Object
  pub here : slice_get input.link.objects object ≡ Some o
  pub function : WasmInitFunc
  pub one : Contains o.init_funcs function
  pub symbol : LinkedSymbol
  pub names : slice_get o.symbols function.symbol_index ≡ Some symbol
  pub wrong : is_wrong_init input object function.symbol_index symbol ≡ true
  pub told : e ≡ WrongKind object function.symbol_index

-- a symbol is of another kind than its use asks for
abbrev pub IsWrongKind : Input → LinkError → Type 0
IsWrongKind input e = IsWrongUse input e ⊎ IsWrongInit input e
