-- What wrappers of a plan call.
use Rattle.std.proofs.Common.{◌≡◌, ◌∙◌, inl, inr, ℕ, true, List, [], ◌++◌, length, refl, sym, ap, subst, arith, Option, Some, None, slice_get}
use Rattle.std.specs.Option.{option_map}
use Rattle.std.proofs.lemmas.Option.{slice_get_within}
use Rattle.wl_module.specs.Bodies.{Body}
use Rattle.wl_module.specs.Types.{FunctionType}
use Rattle.wl_symbols.specs.declared.linker_symbol.WasmLinkerSymbol.TheVariants.{CallCtors}
use Rattle.wl_symbols.specs.ImportSlots.{ImportSlot}
use Rattle.wl_synth.specs.Bodies.{wrapper_ops}
use Rattle.wl_synth.specs.Calls.{AnswerByType, HasResults, Wraps, wrapped_calls}
use Rattle.wl_synth.specs.Encoding.{IsEncoded}
use Rattle.wl_synth.specs.Machine.{World, State, have_types}
use Rattle.wl_bind.specs.EntryTypes.{function_slot}
use Rattle.wl_bind.specs.FunctionSpace.{FunctionEntry, FunctionOf, InitMemory}
use Rattle.wl_symbols.specs.Input.{Input}
use Rattle.wl_bind.specs.OutputTypes.{output_types}
use Rattle.wl_bind.specs.declared.binding.FunctionTarget.TheVariants as function
use Rattle.wl_exports.specs.Exports.{ExportEntry}
use Rattle.wl_exports.specs.Wrappers.{wrapped}
use Rattle.wl_plan.specs.Bodies.{IsBodyOf, IsWrapperBody}
use Rattle.wl_plan.specs.Functions.{own_functions, origin_of, IsOutputFunction, IsWrapperFunction}
use Rattle.wl_plan.specs.Origins.{Origin, OfStub, OfWrapper, PlannedFunction}
use Rattle.wl_plan.specs.Plan.{IsPlan}
use Rattle.wl_plan.specs.Running.{HasMadeBody, HoldsPlan, WrapsFunction}
use Rattle.wl_plan.specs.declared.layout.LinkPlan.{LinkPlan}
use Rattle.wl_plan.proofs.CallLaws.{typed_entry, typed_there}
use Rattle.wl_lists.proofs.In.{at_is_in}
use Rattle.wl_lists.proofs.Beside.{zip_length, zip_left}
use Rattle.wl_lists.proofs.Places.{append_split}

never_wrapper : (input : Input) (entry : FunctionEntry) (name : List ℕ) → origin_of input entry ≡ Some (OfWrapper name) → ⊥
never_wrapper input (FunctionOf (function.Defined object number)) name e = absurd cc
never_wrapper input (FunctionOf (function.Made n)) name e = absurd cc
never_wrapper input (FunctionOf (function.Host object slot)) name e = absurd cc
never_wrapper input (FunctionOf (function.Stub object slot)) name e = at (function_slot input object slot) e
  where
    at : (t : Option ImportSlot) → option_map (λ (x : ImportSlot). OfStub x.item.name) t ≡ Some (OfWrapper name) → ⊥
    at None h = absurd cc
    at (Some t) h = absurd cc
never_wrapper input InitMemory name e = absurd cc

record IsWrapped (input : Input) (name : List ℕ) (b : Body) : Type 0 where
  pub place : ℕ
  pub e : ExportEntry
  pub here : slice_get (wrapped input) place ≡ Some e
  pub name_is : e.name ≡ name
  pub body : IsWrapperBody input e b

wrapped_body : (input : Input) (plan : LinkPlan) (is : IsPlan input plan) (name : List ℕ) (b : Body)
    → HasMadeBody plan (OfWrapper name) b → IsWrapped input name b
wrapped_body input plan is name b h =
    let own = own_functions input in
    let are = is.spaces.functions in
    let bodies = is.bodies.bodies in
    let R = IsOutputFunction input (output_types input) in
    let listed : slice_get (are.own ++ are.wrappers) h.place ≡ Some h.function =
    subst (λ (fs : List PlannedFunction). slice_get fs h.place ≡ Some h.function) are.parts h.here in
    let spelled : slice_get (bodies.own ++ bodies.wrappers) h.place ≡ Some b =
    subst (λ (bs : List Body). slice_get bs h.place ≡ Some b) bodies.parts h.body in
    let long = zip_length R own are.own are.are_own in
    let other = zip_length (IsBodyOf input is.placing) own bodies.own bodies.are_own in
    elim (append_split are.own are.wrappers h.place h.function listed) [
      | inl front ↦
          let z = zip_left R own are.own h.place h.function are.are_own front in
          absurd (never_wrapper input z.0 name ((z.2).origin ∙ ap (λ (o : Origin). Some o) h.origin_is))
      | inr behind ↦
          let w = zip_left (IsWrapperFunction input (output_types input)) (wrapped input) are.wrappers behind.0 h.function are.are_wrappers behind.2 in
          let named : (w.0).name ≡ name = (let e : OfWrapper (w.0).name ≡ OfWrapper name = sym (w.2).origin ∙ h.origin_is in cc) in
          elim (append_split bodies.own bodies.wrappers h.place b spelled) [
            | inl first ↦
                let within = slice_get_within bodies.own h.place b first in
                let at_place = behind.1 in
                absurd (omega (arith, within, long, other, at_place))
            | inr last ↦
                let v = zip_left (IsWrapperBody input) (wrapped input) bodies.wrappers last.0 b bodies.are_wrappers last.2 in
                let one = behind.1 in
                let two = last.1 in
                let same : last.0 ≡ behind.0 = omega (arith, long, other, one, two) in
                let there : slice_get (wrapped input) behind.0 ≡ Some v.0 =
                subst (λ (n : ℕ). slice_get (wrapped input) n ≡ Some v.0) same v.1 in
                let here : slice_get (wrapped input) behind.0 ≡ Some w.0 = w.1 in
                let entry : v.0 ≡ w.0 = cc in
                record {
                  place = behind.0;
                  e = w.0;
                  here = w.1;
                  name_is = named;
                  body = subst (λ (x : ExportEntry). IsWrapperBody input x b) entry v.2;
                }
          ]
    ]

-- what the law of bodies says
abbrev pub TwoCalls : Type 0
TwoCalls = (w : World) (s : State) (call_ctors original : ℕ) (type : FunctionType) (body : List ℕ)
    → IsEncoded (wrapper_ops call_ctors original (length type.params)) body → AnswerByType w
    → HasResults w (call_ctors, 0) → w.type_of original ≡ Some type → have_types s.locals type.params ≡ true
    → Wraps w s (wrapped_calls call_ctors original s) type body

pub wraps_function : TwoCalls → (input : Input) (plan : LinkPlan) (is : IsPlan input plan) (w : World) (s : State)
    (name : List ℕ) (b : Body) → HasMadeBody plan (OfWrapper name) b → HoldsPlan plan w s → AnswerByType w
    → WrapsFunction input w s name b
wraps_function law input plan is w s name b made holds answers =
    let h = wrapped_body input plan is name b made in
    let p = h.body in
    let plain : FunctionType = record { params = []; results = [] } in
    let ctors = typed_there input plan is w s holds (function.Made CallCtors) p.constructors plain p.are_made refl in
    let original = typed_entry input plan is w s holds p.function p.original p.ty p.stands p.typed in
    record {
      entry = h.e;
      one = at_is_in (wrapped input) h.place h.e h.here;
      name_is = h.name_is;
      function = p.function;
      leads = p.leads;
      original = p.original;
      stands = p.stands;
      constructors = p.constructors;
      are_made = p.are_made;
      ty = p.ty;
      typed = p.typed;
      wraps = λ given. subst (λ (t : List ℕ). Wraps w s (wrapped_calls p.constructors p.original s) p.ty t) (sym (p.made).bytes_are)
          (law w s p.constructors p.original p.ty p.bytes p.encoded answers (plain, ctors, refl, refl) original given);
    }
