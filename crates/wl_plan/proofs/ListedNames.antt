-- What the linker makes under a name is listed under it.
use Rattle.std.proofs.Common.{◌≡◌, ◌∙◌, inl, inr, List, ◌++◌, refl, sym, ap, subst, Some, Contains}
use Rattle.wl_module.specs.Types.{FunctionType}
use Rattle.wl_lists.proofs.Beside.{zip_left}
use Rattle.wl_lists.proofs.In.{IsIn, in_split, list_in, place_in}
use Rattle.wl_symbols.specs.Input.{Input}
use Rattle.wl_symbols.specs.Link.{Link}
use Rattle.wl_symbols.specs.LinkerNames.{name_of}
use Rattle.wl_symbols.specs.declared.linker_symbol.WasmLinkerSymbol.{WasmLinkerSymbol}
use Rattle.wl_symbols.specs.declared.linker_symbol.WasmLinkerSymbol.TheVariants.{CallCtors, InitTls}
use Rattle.wl_bind.specs.EntryTypes.{type_of_entry}
use Rattle.wl_bind.specs.FunctionSpace.{FunctionEntry}
use Rattle.wl_bind.specs.FunctionTypes.{type_of_made}
use Rattle.wl_bind.specs.OutputTypes.{output_types}
use Rattle.wl_check.specs.Texts.{made_function_name}
use Rattle.wl_exports.specs.Wrappers.{wrapped}
use Rattle.wl_plan.specs.Faults.{input_of}
use Rattle.wl_plan.specs.Functions.{IsOutputFunction, IsWrapperFunction, own_functions}
use Rattle.wl_plan.specs.LinkPlan.{IsPlanOf}
use Rattle.wl_plan.specs.Origins.{Origin, OfLinker, PlannedFunction}
use Rattle.wl_plan.specs.PlanLines.{made_function}
use Rattle.wl_plan.specs.declared.layout.LinkPlan.{LinkPlan}
use Rattle.wl_plan.proofs.RunningLaws.{linker_entry, not_linker}

-- a name that stands for a function is listed: each other has no type
named_by_type : (m : WasmLinkerSymbol) (t : FunctionType) → type_of_made m ≡ Some t → made_function_name (made_function m) ≡ name_of m
named_by_type CallCtors t e = refl
named_by_type InitTls t e = refl
named_by_type _ t e = absurd cc

pub listed_by_name : (link : Link) (plan : LinkPlan) (f : PlannedFunction) (m : WasmLinkerSymbol) → IsPlanOf link plan
    → Contains plan.layout.function_type_indices f → f.origin ≡ OfLinker m → made_function_name (made_function m) ≡ name_of m
listed_by_name link plan f m is there from =
    let input : Input = input_of link is.live in
    let fs = is.is_plan.spaces.functions in
    let types = output_types input in
    let listed : IsIn (fs.own ++ fs.wrappers) f =
    subst (λ (xs : List PlannedFunction). IsIn xs f) fs.parts
    (list_in plan.layout.function_type_indices f there) in
    let named : made_function_name (made_function m) ≡ name_of m = elim (in_split fs.own fs.wrappers f listed) [
      | inl own ↦
          let k = place_in fs.own f own in
          let z = zip_left (IsOutputFunction input types) (own_functions input) fs.own k.0 f fs.are_own k.1 in
          let entry = linker_entry input z.0 m ((z.2).origin ∙ ap (λ (o : Origin). Some o) from) in
          named_by_type m ((z.2).typed).0 (sym (ap (λ (e : FunctionEntry). type_of_entry input e) entry) ∙ ((z.2).typed).1)
      | inr last ↦
          let k = place_in fs.wrappers f last in
          let z = zip_left (IsWrapperFunction input types) (wrapped input) fs.wrappers k.0 f fs.are_wrappers k.1 in
          absurd (not_linker f.origin m (z.0).name from (z.2).origin)
    ] in
    named
