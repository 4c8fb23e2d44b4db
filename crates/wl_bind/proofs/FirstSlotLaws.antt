-- What a kept function slot is bound to is in the output.
use Rattle.std.proofs.Common.{◌≡◌, ◌∙◌, not, ℕ, Bool, true, false, List, [], length, find, sym, ap, subst, inl, inr, Some, None, slice_get, Contains, nat_lt}
use Rattle.std.specs.Option.{is_none}
use Rattle.std.proofs.lemmas.Bool.{ltb-true, not-true}
use Rattle.wl_linking.specs.Object.{Object}
use Rattle.wl_custom.specs.declared.symbols.WasmSymbolKind.{WasmSymbolKind}
use Rattle.wl_custom.specs.declared.symbols.WasmSymbolKind.TheVariants.{Func}
use Rattle.wl_symbols.specs.LinkerNames.{kind_of, matches_kind}
use Rattle.wl_symbols.specs.Live.{IsLiveOf}
use Rattle.wl_symbols.specs.Units.{units_of, units_at}
use Rattle.wl_symbols.specs.declared.units.LinkUnit.{LinkUnit}
use Rattle.wl_symbols.specs.declared.units.UnitCounts.{UnitCounts}
use Rattle.wl_symbols.specs.declared.units.WasmGcUnit.TheVariants.{DefinedFunction, FunctionImport}
use Rattle.wl_symbols.specs.ImportSlots.{ImportSlot, object_slots}
use Rattle.wl_symbols.specs.Left.{same_field, same_import, is_stub, stub_slots, first_imports}
use Rattle.wl_symbols.specs.SlotTargets.{slot_target}
use Rattle.wl_symbols.specs.declared.targets.SlotTarget.{SlotTarget}
use Rattle.wl_symbols.specs.declared.targets.SlotTarget.TheVariants as slot
use Rattle.wl_bind.specs.FunctionBinding.{left_functions, link_stubs, host_functions, named_function, binds_function}
use Rattle.wl_symbols.specs.Input.{Input, keeps}
use Rattle.wl_symbols.specs.KeptSlots.{slots_from, is_kept_slot, kept_slots}
use Rattle.wl_bind.specs.References.{IsBoundTo, IsKeptFunction, IsInOutput}
use Rattle.wl_bind.specs.declared.binding.FunctionTarget.{FunctionTarget}
use Rattle.wl_bind.specs.declared.binding.FunctionTarget.TheVariants as function
use Rattle.wl_lists.proofs.Firsts.{in_firsts}
use Rattle.wl_lists.proofs.Found.{cases_option}
use Rattle.wl_lists.proofs.In.{IsIn, in_filter, Contains-filter as stays, list_in}
use Rattle.wl_bind.proofs.ClosedLaws.{counts_at, is_function, bound_of_kind, function_units, kept_definition}
use Rattle.wl_bind.proofs.FindLaws.{find_some}
use Rattle.wl_bind.proofs.HostLaws.{IsAt, kept_at, slot_in, IsSlotIn}
use Rattle.wl_bind.proofs.LeftLaws.{itself, stub_found, no_stub, named_binds, any_listed, stub_bound, host_bound}
use Rattle.wl_bind.proofs.ListLaws.{none_found}
use Rattle.wl_bind.proofs.MadeLaws.{BindingLaws, bound_is_made_function}
use Rattle.wl_bind.proofs.OnceParts.{passes}
use Rattle.wl_bind.proofs.OneRuleLaws.{own_import}
use Rattle.wl_bind.proofs.ListedLaws.{finds_itself, is_nothing}
use Rattle.wl_lists.proofs.Places.{there_is}
use Rattle.wl_bind.proofs.NumberingLaws.{live_within}
use Rattle.wl_bind.proofs.OwnLaws.{live_exists}

-- ---- where a slot stands

-- a function slot that names leave
pub record LeftSlot (input : Input) (t : ImportSlot) : Type 0 where
  pub none : slot_target input.link t ≡ None
  pub kept : is_kept_slot input t ≡ true
  pub among : IsIn (slots_from Func 0 input.link.objects) t
  pub slot : IsSlotIn input.link.objects Func t

left_slot : (input : Input) (t : ImportSlot) → IsIn (left_functions input) t → LeftSlot input t
left_slot input t h =
    let unnamed : ImportSlot → Bool = λ (s : ImportSlot). is_none (slot_target input.link s) in
    let all : List ImportSlot = slots_from Func 0 input.link.objects in
    let kept : IsIn (kept_slots input Func) t = in_filter unnamed (kept_slots input Func) t h in
    let among : IsIn all t = in_filter (is_kept_slot input) all t kept in
    record {
      none = is_nothing (slot_target input.link t) (passes unnamed (kept_slots input Func) t h);
      kept = passes (is_kept_slot input) all t kept;
      among = among;
      slot = slot_in input.link.objects Func t among;
    }

-- ---- stubs and host imports are what their first slots are bound to

-- a slot that is bound to itself
pub record IsFirst (input : Input) (t : ImportSlot) (target : FunctionTarget) : Type 0 where
  pub left : LeftSlot input t
  pub bound : binds_function input t ≡ target

pub stub_itself : (input : Input) (s : ImportSlot) → IsIn (link_stubs input) s → IsFirst input s (function.Stub s.object s.number)
stub_itself input s h =
    let stub : ImportSlot → Bool = is_stub input.link.objects (left_functions input) in
    let one : IsIn (stub_slots input.link.objects (left_functions input)) s =
    in_firsts same_field (stub_slots input.link.objects (left_functions input)) s h in
    let left : LeftSlot input s = left_slot input s (in_filter stub (left_functions input) s one) in
    record {
      left = left;
      bound = stub_bound input s s left.none (passes stub (left_functions input) s one)
          (finds_itself same_field itself (stub_slots input.link.objects (left_functions input)) s h);
    }

pub host_itself : (input : Input) (s : ImportSlot) → IsIn (first_imports (host_functions input)) s
    → IsFirst input s (function.Host s.object s.number)
host_itself input s h =
    let host : ImportSlot → Bool = λ (t : ImportSlot). not (is_stub input.link.objects (left_functions input) t) in
    let one : IsIn (host_functions input) s = in_firsts same_import (host_functions input) s h in
    let left : LeftSlot input s = left_slot input s (in_filter host (left_functions input) s one) in
    record {
      left = left;
      bound = host_bound input s s left.none
          (not-true (is_stub input.link.objects (left_functions input) s) (passes host (left_functions input) s one))
          (finds_itself same_import own_import (host_functions input) s h);
    }

as_bound : (input : Input) (s : ImportSlot) (target : FunctionTarget) → IsFirst input s target → IsBoundTo input s.object s.number target
as_bound input s target first = record {
  slot_is = s;
  here = first.left.slot.at;
  kept = first.left.kept;
  bound = first.bound;
}

-- ---- what a kept slot is bound to is in the output

-- a function that is kept is there
pub kept_is_there : (input : Input) → IsLiveOf input.link input.live → (i j : ℕ) → keeps input i (DefinedFunction j) ≡ true
    → IsKeptFunction input i j
kept_is_there input live i j kept =
    let u : LinkUnit = record { object = i; unit = DefinedFunction j } in
    let o = there_is input.link.objects i (live_within input u live kept) in
    let lt : nat_lt j (units_at (units_of input.link.objects) i).functions ≡ true =
    subst (λ (ns : List UnitCounts). nat_lt j (units_at ns i).functions ≡ true) live.units (live_exists input.live u kept) in
    record {
      definer = o.0;
      here = o.1;
      within = ltb-true j (length (o.0).functions)
          (subst (λ (n : UnitCounts). nat_lt j n.functions ≡ true) (counts_at input.link.objects i o.0 o.1) lt);
      kept = kept;
    }

left_is_there : (input : Input) (t : ImportSlot) → Contains (left_functions input) t → slot_target input.link t ≡ None
    → IsInOutput input (binds_function input t)
left_is_there input t listed none = elim (cases_option (find (same_field t) (link_stubs input))) [
  | inr s ↦
      (let so : is_stub input.link.objects (left_functions input) t ≡ true =
      stub_found input.link.objects (left_functions input) t s.0 listed s.1 in
      let one : IsIn (link_stubs input) s.0 =
      list_in (link_stubs input) s.0 (find_some (same_field t) (link_stubs input) s.0 s.1).0 in
      subst (λ (f : FunctionTarget). IsInOutput input f) (sym (stub_bound input t s.0 none so s.1))
      (as_bound input s.0 (function.Stub (s.0).object (s.0).number) (stub_itself input s.0 one)))
  | inl no_one ↦
      (let not_so : is_stub input.link.objects (left_functions input) t ≡ false =
      no_stub input.link.objects (left_functions input) t listed no_one in
      let test : ImportSlot → Bool = λ (s : ImportSlot). not (is_stub input.link.objects (left_functions input) s) in
      let among : Contains (host_functions input) t = stays test (left_functions input) t listed (ap not not_so) in
      elim (cases_option (find (same_import t) (first_imports (host_functions input)))) [
        | inr s ↦
            (let one : IsIn (first_imports (host_functions input)) s.0 =
            list_in (first_imports (host_functions input)) s.0
            (find_some (same_import t) (first_imports (host_functions input)) s.0 s.1).0 in
            subst (λ (f : FunctionTarget). IsInOutput input f) (sym (host_bound input t s.0 none not_so s.1))
            (as_bound input s.0 (function.Host (s.0).object (s.0).number) (host_itself input s.0 one)))
        | inl nothing ↦ absurd (let both : true ≡ false =
            sym (any_listed same_import [] (host_functions input) t (own_import t) (list_in (host_functions input) t among))
            ∙ none_found (same_import t) (first_imports (host_functions input)) nothing in cc)
      ])
]

-- a kept function slot of an object
pub record IsKeptAt (input : Input) (object k : ℕ) (o : Object) (t : ImportSlot) : Type 0 where
  pub here : slice_get input.link.objects object ≡ Some o
  pub at : slice_get (object_slots object Func o) k ≡ Some t
  pub is_at : IsAt object Func k t
  pub kept : is_kept_slot input t ≡ true
  pub listed : Contains (kept_slots input Func) t

named_is_there : BindingLaws → (input : Input) → IsLiveOf input.link input.live
    → (object k : ℕ) (o : Object) (t : ImportSlot)
    → IsKeptAt input object k o t → (named : SlotTarget) → slot_target input.link t ≡ Some named
    → IsInOutput input (named_function named)
named_is_there laws input live object k o t at (slot.Defined i j) is =
    kept_is_there input live i j
    (kept_definition laws.slots input.link input.live live Func FunctionImport DefinedFunction function_units object k o t i j
    at.here at.at at.is_at
    (kept_at input object Func k t at.is_at ∙ at.kept) is)
named_is_there laws input live object k o t at (slot.Made m) is = record {
  kind = is_function (kind_of m)
      (subst (λ (kind : WasmSymbolKind). matches_kind kind m ≡ true) at.is_at.kind_is
      (bound_of_kind laws.slots input.link t m is));
  made = bound_is_made_function laws input t m at.listed (named_binds input t (slot.Made m) is);
}

pub bound_is_there : BindingLaws → (input : Input) → IsLiveOf input.link input.live
    → (object k : ℕ) (o : Object) (t : ImportSlot)
    → IsKeptAt input object k o t → IsInOutput input (binds_function input t)
bound_is_there laws input live object k o t at = elim (cases_option (slot_target input.link t)) [
  | inr named ↦ subst (λ (f : FunctionTarget). IsInOutput input f) (sym (named_binds input t named.0 named.1))
      (named_is_there laws input live object k o t at named.0 named.1)
  | inl none ↦ left_is_there input t
      (stays (λ (s : ImportSlot). is_none (slot_target input.link s)) (kept_slots input Func) t at.listed (ap is_none none)) none
]
