-- What kept slots are bound to is kept, where objects define it.
use Rattle.std.proofs.Common.{◌≡◌, ◌∙◌, ℕ, true, sym, subst, inl, inr, List, Some, slice_get, Contains}
use Rattle.wl_custom.specs.declared.symbols.WasmSymbolKind.{WasmSymbolKind}
use Rattle.wl_custom.specs.declared.symbols.WasmSymbolKind.TheVariants.{Func, Global}
use Rattle.wl_symbols.specs.ImportSlots.{ImportSlot}
use Rattle.wl_symbols.specs.Input.{Input, keeps}
use Rattle.wl_symbols.specs.KeptSlots.{slots_from, is_kept_slot, kept_slots}
use Rattle.wl_symbols.specs.Live.{IsLiveOf}
use Rattle.wl_symbols.specs.SlotTargets.{slot_target}
use Rattle.wl_symbols.specs.declared.targets.SlotTarget.{SlotTarget}
use Rattle.wl_symbols.specs.declared.targets.SlotTarget.TheVariants as slot
use Rattle.wl_symbols.specs.declared.units.WasmGcUnit.TheVariants.{DefinedFunction, DefinedGlobal, GlobalImport}
use Rattle.wl_bind.specs.FunctionBinding.{binds_function}
use Rattle.wl_bind.specs.GlobalBinding.{binds_global}
use Rattle.wl_bind.specs.References.{IsInOutput}
use Rattle.wl_bind.specs.declared.binding.FunctionTarget.{FunctionTarget}
use Rattle.wl_bind.specs.declared.binding.FunctionTarget.TheVariants as function
use Rattle.wl_bind.specs.declared.binding.GlobalTarget.{GlobalTarget}
use Rattle.wl_bind.specs.declared.binding.GlobalTarget.TheVariants as global
use Rattle.wl_bind.specs.steps.Laws.{LinkLaws}
use Rattle.wl_bind.proofs.ClosedLaws.{global_units}
use Rattle.wl_bind.proofs.FirstSlotLaws.{bound_is_there}
use Rattle.wl_bind.proofs.GlobalIndexLaws.{IsNoDefinition, no_definition, named_binds}
use Rattle.wl_bind.proofs.HostLaws.{placed, slots_here, IsSlotIn, slot_in}
use Rattle.wl_bind.proofs.OnceParts.{passes}
use Rattle.wl_bind.proofs.SlotIndexLaws.{binding_of, named_is_live}
use Rattle.wl_lists.proofs.Found.{cases_option}
use Rattle.wl_lists.proofs.In.{list_in, in_filter}

-- a kept slot of a kind, where it stands
record IsKept (input : Input) (kind : WasmSymbolKind) (t : ImportSlot) : Type 0 where
  kept : is_kept_slot input t ≡ true
  is : IsSlotIn input.link.objects kind t

kept_is : (input : Input) (kind : WasmSymbolKind) (t : ImportSlot) → Contains (kept_slots input kind) t → IsKept input kind t
kept_is input kind t listed =
    let all : List ImportSlot = slots_from kind 0 input.link.objects in
    record {
      kept = passes (is_kept_slot input) all t (list_in (kept_slots input kind) t listed);
      is = slot_in input.link.objects kind t (in_filter (is_kept_slot input) all t (list_in (kept_slots input kind) t listed));
    }

pub bound_function_kept : LinkLaws → (input : Input) (t : ImportSlot) (i j : ℕ) → IsLiveOf input.link input.live
    → Contains (kept_slots input Func) t → binds_function input t ≡ function.Defined i j → keeps input i (DefinedFunction j) ≡ true
bound_function_kept laws input t i j live listed is =
    let k : IsKept input Func t = kept_is input Func t listed in
    let there : IsInOutput input (binds_function input t) =
    bound_is_there (binding_of laws) input live t.object t.number k.is.object t (record {
      here = k.is.here;
      at = subst (λ (ts : List ImportSlot). slice_get ts t.number ≡ Some t) (slots_here input.link.objects t.object Func k.is.object k.is.here) k.is.at;
      is_at = placed input.link.objects t.object Func t.number t k.is.at;
      kept = k.kept;
      listed = listed;
    }) in
    let defined : IsInOutput input (function.Defined i j) = subst (λ (f : FunctionTarget). IsInOutput input f) is there in
    defined.kept

-- the same of what names bind a global slot to
named_kept : LinkLaws → (input : Input) (t : ImportSlot) (i j : ℕ) → IsLiveOf input.link input.live → IsKept input Global t
    → (named : SlotTarget) → slot_target input.link t ≡ Some named → binds_global input t ≡ global.Defined i j
    → keeps input i (DefinedGlobal j) ≡ true
named_kept laws input t i j live k (slot.Defined a b) bound is =
    let same : global.Defined a b ≡ global.Defined i j = sym (named_binds input t (slot.Defined a b) bound) ∙ is in
    let object : a ≡ i = cc in
    let number : b ≡ j = cc in
    subst (λ (n : ℕ). keeps input n (DefinedGlobal j) ≡ true) object
    (subst (λ (n : ℕ). keeps input a (DefinedGlobal n) ≡ true) number
    (named_is_live (binding_of laws).slots input live Global GlobalImport DefinedGlobal global_units t.object t.number (λ so. so) t a b
    k.is.at k.kept bound))
named_kept laws input t i j live k (slot.Made m) bound is =
    absurd (let same : global.Made m ≡ global.Defined i j = sym (named_binds input t (slot.Made m) bound) ∙ is in cc)

pub bound_global_kept : LinkLaws → (input : Input) (t : ImportSlot) (i j : ℕ) → IsLiveOf input.link input.live
    → Contains (kept_slots input Global) t → binds_global input t ≡ global.Defined i j → keeps input i (DefinedGlobal j) ≡ true
bound_global_kept laws input t i j live listed is = elim (cases_option (slot_target input.link t)) [
  | inr named ↦ named_kept laws input t i j live (kept_is input Global t listed) named.0 named.1 is
  | inl none ↦ absurd (subst (λ (x : GlobalTarget). IsNoDefinition x) is (no_definition input t none))
]
