-- The calls are fixed by the link and what is kept.
use Rattle.std.proofs.Common.{◌≡◌, ◌∙◌, List, length, sym, ap, subst, Some, slice_get}
use Rattle.std.specs.List.Sorted.{IsStableByKey}
use Rattle.std.specs.Ordering.{nat_cmp}
use Rattle.std.proofs.lemmas.Option.{same_Some}
use Rattle.wl_module.specs.Types.{FunctionType}
use Rattle.wl_bind.specs.FunctionSpace.{FunctionOf, function_space}
use Rattle.wl_bind.specs.FunctionTypes.{target_type}
use Rattle.wl_symbols.specs.Input.{Input}
use Rattle.wl_bind.specs.Parts.{StandOnce}
use Rattle.wl_bind.specs.declared.binding.FunctionTarget.{FunctionTarget}
use Rattle.wl_ctors.specs.InitCalls.{InitFunction, init_functions, IsInitCall, AreInitCalls, priority_of}
use Rattle.wl_ctors.specs.declared.calls.InitCall.{InitCall}
use Rattle.wl_lists.proofs.Beside.{zip_one}
use Rattle.wl_ctors.proofs.OrderLaws.{order_one}

same_call : (a b : InitCall) → a.priority ≡ b.priority → a.index ≡ b.index
    → a.results ≡ b.results → a ≡ b
same_call a b p i r = λ t. record { priority = p t; index = i t; results = r t }

-- a function has one call
call_one : (input : Input) → StandOnce (function_space input) → (f : InitFunction)
    (a b : InitCall) → IsInitCall input f a → IsInitCall input f b → a ≡ b
call_one input once f a b x y =
    let target : x.target ≡ y.target = same_Some x.target y.target (sym x.leads ∙ y.leads) in
    let here : slice_get (function_space input) b.index ≡ Some (FunctionOf x.target) =
    y.index ∙ ap (λ (t : FunctionTarget). Some (FunctionOf t)) (sym target) in
    let index : a.index ≡ b.index =
    once a.index b.index (FunctionOf x.target) x.index here in
    let types : Some x.ty ≡ Some y.ty =
    sym x.typed ∙ ap (λ (t : FunctionTarget). target_type input.link.objects t) target ∙ y.typed in
    let ty : x.ty ≡ y.ty = same_Some x.ty y.ty types in
    let results : a.results ≡ b.results =
    x.results ∙ ap (λ (t : FunctionType). length t.results) ty ∙ sym y.results in
    same_call a b (x.priority ∙ sym y.priority) index results

pub calls_one : ((input : Input) → StandOnce (function_space input)) → (input : Input)
    (a b : List InitCall) → AreInitCalls input a → AreInitCalls input b → a ≡ b
calls_one once input a b x y =
    let all : x.all ≡ y.all =
    zip_one (IsInitCall input) (call_one input (once input)) (init_functions input.link) x.all
    y.all x.each y.each in
    let P : List InitCall → Type 0 =
    λ (cs : List InitCall). IsStableByKey priority_of nat_cmp cs a in
    order_one priority_of y.all a b x.order.ascending (subst P all x.order.stable)
    y.order.ascending y.order.stable
