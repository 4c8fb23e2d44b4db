-- Each export of a plan leads to its thing.
use Rattle.std.proofs.Common.{◌≡◌, ◌⊎◌, ◌∙◌, inl, inr, ℕ, zero, suc, ◌+◌, Bool, true, false, List, [], ◌∷◌, ◌++◌, length, take, drop, filter, refl, sym, ap, subst, arith, Some, slice_get, append_assoc, length-append}
use Rattle.std.proofs.lemmas.Bool.{cases_Bool}
use Rattle.std.proofs.lemmas.Option.{same_Some, slice_get_within}
use Rattle.wl_lists.proofs.Beside.{zip_length, zip_right}
use Rattle.wl_lists.proofs.Places.{get_behind, there_is}
use Rattle.wl_module.specs.Exports.{Exported}
use Rattle.wl_symbols.specs.Input.{Input}
use Rattle.wl_bind.specs.FunctionSpace.{FunctionEntry, function_parts, function_space, host_function_part, object_functions}
use Rattle.wl_bind.specs.OutputTypes.{output_types}
use Rattle.wl_bind.specs.Parts.{joined}
use Rattle.wl_exports.specs.Exports.{ExportEntry, exports}
use Rattle.wl_exports.specs.Sources.{IsPlainExport}
use Rattle.wl_exports.specs.Wrapped.{IsExportIf, is_wrapped}
use Rattle.wl_exports.specs.Wrappers.{can_wrap, wrapped, wraps}
use Rattle.wl_plan.specs.Exported.{LeadsToItsThing, LeadsToWrapper}
use Rattle.wl_plan.specs.Functions.{IsOutputFunction, IsWrapperFunction, own_functions}
use Rattle.wl_plan.specs.Origins.{PlannedFunction}
use Rattle.wl_plan.specs.Plan.{IsPlan}
use Rattle.wl_plan.specs.declared.layout.LinkPlan.{LinkPlan}
use Rattle.wl_plan.proofs.CallLaws.{imported_functions}

-- ---- places

drop_front : {X : Type 0} (xs ys : List X) → drop (length xs) (xs ++ ys) ≡ ys
drop_front [] [] = refl
drop_front [] (y ∷ ys) = refl
drop_front (x ∷ xs) ys = drop_front xs ys

-- the functions are those that are imported, and the others
own_length : (input : Input)
    → length (function_space input) ≡ length (host_function_part input) + length (own_functions input)
own_length input =
    let hosts = host_function_part input in
    let rest : List FunctionEntry = joined (drop 1 (function_parts input)) in
    let own = object_functions input in
    let whole : (hosts ++ rest) ++ own ≡ hosts ++ (rest ++ own) = append_assoc hosts rest own in
    let behind : own_functions input ≡ rest ++ own =
    ap (λ (es : List FunctionEntry). drop (length hosts) es) whole ∙ drop_front hosts (rest ++ own) in
    let all : length (function_space input) ≡ length hosts + length (rest ++ own) =
    ap (λ (es : List FunctionEntry). length es) whole ∙ length-append hosts (rest ++ own) in
    let same = ap (λ (es : List FunctionEntry). length es) behind in
    omega (arith, all, same)

-- one that passes stands after as many as pass before it
filter_place : {X : Type 0} (p : X → Bool) (xs : List X) (i : ℕ) (x : X) → slice_get xs i ≡ Some x
    → p x ≡ true → slice_get (filter p xs) (length (filter p (take i xs))) ≡ Some x
filter_place p [] i x here so = absurd cc
filter_place {X} p (y ∷ xs) zero x here so =
    let same : y ≡ x = same_Some y x here in
    let passes : p y ≡ true = rw same so in
    rw passes (ap (λ (z : X). Some z) same)
filter_place p (y ∷ xs) (suc i) x here so = elim (cases_Bool (p y)) [
  | inl passes ↦ rw passes (filter_place p xs i x here so)
  | inr fails ↦ rw fails (filter_place p xs i x here so)
]

-- where exports are wrapped, those are that can be
filter_same : (input : Input) (es : List ExportEntry) → wraps input ≡ true
    → filter (is_wrapped input) es ≡ filter can_wrap es
filter_same input [] on = refl
filter_same input (e ∷ es) on =
    let here : is_wrapped input e ≡ can_wrap e = rw on refl in
    rw (here, filter_same input es on) refl

wrapped_place : (input : Input) (place : ℕ) (e : ExportEntry) → slice_get (exports input) place ≡ Some e
    → is_wrapped input e ≡ true
    → slice_get (wrapped input) (length (filter (is_wrapped input) (take place (exports input)))) ≡ Some e
wrapped_place input place e here is = at (wraps input) refl
  where
    at : (b : Bool) → wraps input ≡ b
        → slice_get (wrapped input) (length (filter (is_wrapped input) (take place (exports input)))) ≡ Some e
    at false off = absurd (let bad : false ≡ true = rw off at is in cc)
    at true on =
        let can : can_wrap e ≡ true = rw on at is in
        rw (on, filter_same input (take place (exports input)) on)
        (filter_place can_wrap (exports input) place e here can)

-- ---- exports

leads_if : (input : Input) (plan : LinkPlan) (place : ℕ) (e : ExportEntry) (x : Exported)
    → IsPlan input plan → slice_get (exports input) place ≡ Some e → (b : Bool)
    → is_wrapped input e ≡ b
    → IsExportIf b input (length (filter (is_wrapped input) (take place (exports input)))) e x
    → IsPlainExport input e x ⊎ LeadsToWrapper plan e x
leads_if input plan place e x is here false w h = inl h
leads_if input plan place e x is here true w h =
    let number = length (filter (is_wrapped input) (take place (exports input))) in
    let fs = is.spaces.functions in
    let types = output_types input in
    let listed = wrapped_place input place e here w in
    let z = zip_right (IsWrapperFunction input types) (wrapped input) fs.wrappers number e fs.are_wrappers listed in
    let own = zip_length (IsOutputFunction input types) (own_functions input) fs.own fs.are_own in
    let at : slice_get (fs.own ++ fs.wrappers) (length fs.own + number) ≡ Some z.0 =
    get_behind fs.own fs.wrappers number (length fs.own + number) refl ∙ z.1 in
    let imports = imported_functions input is.placing plan.layout.imports is.spaces.imports in
    let long = own_length input in
    let index = h.2 in
    inr (record {
      name = h.0;
      kind = h.1;
      place = length fs.own + number;
      index = omega (arith, index, imports, own, long);
      wrapper = z.0;
      here = subst (λ (xs : List PlannedFunction). slice_get xs (length fs.own + number) ≡ Some z.0)
          (sym fs.parts) at;
      origin = (z.2).origin;
    })

pub export_leads : (input : Input) (plan : LinkPlan) (place : ℕ) (x : Exported) → IsPlan input plan
    → slice_get plan.layout.exports place ≡ Some x → LeadsToItsThing input plan place x
export_leads input plan place x is here =
    let are = is.spaces.exports in
    let within = slice_get_within plan.layout.exports place x here in
    let long = are.len in
    let e = there_is (exports input) place (omega (arith, within, long)) in
    record {
      entry = e.0;
      here = e.1;
      leads = leads_if input plan place e.0 x is e.1 (is_wrapped input e.0) refl (are.each place e.0 x e.1 here);
    }
