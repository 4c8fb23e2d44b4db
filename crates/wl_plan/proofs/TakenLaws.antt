-- What a field takes: a value, or a place in the block of a thread.
use Rattle.std.proofs.Common.{◌≡◌, ◌∙◌, ℕ, ℤ, false, refl, sym, ap, subst, Option, Some, None, slice_get}
use Rattle.std.specs.Prelude.{Result, Ok, Err, pos}
use Rattle.std.specs.Option.{option_map_or, unwrap_or}
use Rattle.wl_linking.specs.Object.{Object}
use Rattle.wl_custom.specs.declared.relocation_type.RelocationType.{RelocationType}
use Rattle.wl_custom.specs.declared.relocations.WasmRelocation.{WasmRelocation}
use Rattle.wl_index.specs.declared.data_address.WasmDataAddress.{WasmDataAddress}
use Rattle.wl_index.specs.declared.data_address.WasmDataAddress.TheVariants.{Missing}
use Rattle.wl_reloc.specs.Addresses.{deferred_at, deferred_pointer}
use Rattle.wl_custom.specs.RelocationTypes.{taking_of}
use Rattle.wl_custom.specs.Takings.{is_in_memory}
use Rattle.wl_reloc.specs.declared.error.RelocError.{RelocError}
use Rattle.wl_index.specs.declared.index_map.WasmObjectIndexMap.{WasmObjectIndexMap}
use Rattle.wl_custom.specs.declared.takings.AddressBase.{AddressBase}
use Rattle.wl_custom.specs.declared.takings.AddressBase.TheVariants.{Memory, MemoryBase, ThreadData}
use Rattle.wl_custom.specs.declared.takings.Taking.{Taking}
use Rattle.wl_custom.specs.declared.takings.Taking.TheVariants.{FunctionIndex, Slot, SlotBehindBase, TypeIndex, GlobalIndex, TableNumber, Address}
use Rattle.wl_symbols.specs.Input.{Input}
use Rattle.wl_symbols.specs.declared.relocated.Relocated.{Relocated}
use Rattle.wl_plan.specs.steps.Fixups.{Answers, AnswersValue, IsValueOf, left_of}
use Rattle.wl_plan.specs.Fixups.{address_taken, addend_left, field_taken, value_or_pointer, IsTaken}
use Rattle.wl_places.specs.IndexedMaps.{IsWholeMap}
use Rattle.wl_plan.specs.Threads.{address_named, pointer_named, template_start}
use Rattle.wl_output.specs.declared.fixups.FixupTo.TheVariants.{Value, Deferred}
use Rattle.wl_places.specs.declared.placing.Placing.{Placing}
use Rattle.wl_plan.proofs.DeferredLaws.{none_named}
use Rattle.wl_plan.proofs.FixupLaws.{address_found, left_addend, left_zero}

-- ---- the place in the block

same_place : (ty : RelocationType) (addend : ℤ) (a : Option WasmDataAddress)
    → deferred_at ty addend a ≡ deferred_at ty addend (Some (unwrap_or a Missing))
same_place ty addend None = refl
same_place ty addend (Some a) = refl

pub pointer_found : (input : Input) (g : Placing) (r : Relocated) (o : Object) (m : WasmObjectIndexMap) (start : ℕ)
    → slice_get input.link.objects r.object ≡ Some o → IsWholeMap input g r.object o m
    → template_start g r ≡ Some start → deferred_pointer m.data_addresses r.relocation ≡ pointer_named input g r
pointer_found input g r o m start here map at =
    same_place r.relocation.ty r.relocation.addend (slice_get m.data_addresses r.relocation.index)
    ∙ (ap (λ (a : WasmDataAddress). deferred_at r.relocation.ty r.relocation.addend (Some a))
    (address_found input g r.object o m r.relocation.index here map)
    ∙ sym (ap (λ (s : Option ℕ). option_map_or (λ (n : ℕ). deferred_at r.relocation.ty r.relocation.addend
    (Some (address_named input g r))) s (Ok None)) at))

pub pointer_none : (input : Input) (g : Placing) (r : Relocated) → template_start g r ≡ None
    → pointer_named input g r ≡ Ok None
pointer_none input g r at =
    ap (λ (s : Option ℕ). option_map_or (λ (n : ℕ). deferred_at r.relocation.ty r.relocation.addend
    (Some (address_named input g r))) s (Ok None)) at

-- a field that takes no address names no place
module _ (input : Input) (g : Placing) (r : Relocated) where
  named_by : (taking : Taking) (x : Result (Option ℤ) RelocError) → taking_of r.relocation.ty ≡ taking
      → pointer_named input g r ≡ x → ((base : AddressBase) → taking ≡ Address base → ⊥) → x ≡ Ok None
  named_by taking x is named never =
      sym named ∙ none_named input g r (λ base e. never base (sym is ∙ e))

  field_is : (base : AddressBase) (x : Result (Option ℤ) RelocError) → pointer_named input g r ≡ x
      → field_taken input g r base ≡ value_or_pointer x
      (addend_left base (address_named input g r) r.relocation.addend) (address_taken input g r base)
  field_is base x named =
      ap (λ (y : Result (Option ℤ) RelocError). value_or_pointer y
      (addend_left base (address_named input g r) r.relocation.addend) (address_taken input g r base)) named

  -- ---- refused

  refused_at : (taking : Taking) (why : RelocError) → taking_of r.relocation.ty ≡ taking
      → pointer_named input g r ≡ Err why → Answers input g r taking (Err why)
  refused_at (Address base) why is named = (base, refl, field_is base (Err why) named)
  refused_at TypeIndex why is named =
      absurd (let bad = named_by TypeIndex (Err why) is named (λ base e. absurd cc) in cc)
  refused_at FunctionIndex why is named =
      absurd (let bad = named_by FunctionIndex (Err why) is named (λ base e. absurd cc) in cc)
  refused_at Slot why is named =
      absurd (let bad = named_by Slot (Err why) is named (λ base e. absurd cc) in cc)
  refused_at SlotBehindBase why is named =
      absurd (let bad = named_by SlotBehindBase (Err why) is named (λ base e. absurd cc) in cc)
  refused_at GlobalIndex why is named =
      absurd (let bad = named_by GlobalIndex (Err why) is named (λ base e. absurd cc) in cc)
  refused_at TableNumber why is named =
      absurd (let bad = named_by TableNumber (Err why) is named (λ base e. absurd cc) in cc)

  -- ---- deferred

  deferred_to : (taking : Taking) (offset : ℤ) → taking_of r.relocation.ty ≡ taking
      → pointer_named input g r ≡ Ok (Some offset) → IsTaken input g r taking (Deferred offset)
  deferred_to (Address base) offset is named = field_is base (Ok (Some offset)) named
  deferred_to TypeIndex offset is named =
      absurd (let bad = named_by TypeIndex (Ok (Some offset)) is named (λ base e. absurd cc) in cc)
  deferred_to FunctionIndex offset is named =
      absurd (let bad = named_by FunctionIndex (Ok (Some offset)) is named (λ base e. absurd cc) in cc)
  deferred_to Slot offset is named =
      absurd (let bad = named_by Slot (Ok (Some offset)) is named (λ base e. absurd cc) in cc)
  deferred_to SlotBehindBase offset is named =
      absurd (let bad = named_by SlotBehindBase (Ok (Some offset)) is named (λ base e. absurd cc) in cc)
  deferred_to GlobalIndex offset is named =
      absurd (let bad = named_by GlobalIndex (Ok (Some offset)) is named (λ base e. absurd cc) in cc)
  deferred_to TableNumber offset is named =
      absurd (let bad = named_by TableNumber (Ok (Some offset)) is named (λ base e. absurd cc) in cc)

  -- ---- a value

  no_value : (taking : Taking) (why : RelocError) → pointer_named input g r ≡ Ok None
      → AnswersValue input g r taking (Err why) → Answers input g r taking (Err why)
  no_value taking why named h = (
    h.0,
    h.1,
    field_is h.0 (Ok None) named
        ∙ ap (λ (v : Result ℤ RelocError). value_or_pointer (Ok None)
        (addend_left h.0 (address_named input g r) r.relocation.addend) v) h.2,
  )

-- what is left to be added, by what is taken
left_by : (r : WasmRelocation) (a : WasmDataAddress) (base : AddressBase)
    → taking_of r.ty ≡ Address base → left_of a r ≡ addend_left base a r.addend
left_by r a Memory is = left_addend a r (ap is_in_memory is)
left_by r a MemoryBase is = left_zero a r (ap is_in_memory is)
left_by r a ThreadData is = left_zero a r (ap is_in_memory is)

not_in_memory : (taking : Taking) → ((base : AddressBase) → taking ≡ Address base → ⊥)
    → is_in_memory taking ≡ false
not_in_memory FunctionIndex never = refl
not_in_memory Slot never = refl
not_in_memory SlotBehindBase never = refl
not_in_memory TypeIndex never = refl
not_in_memory GlobalIndex never = refl
not_in_memory TableNumber never = refl
not_in_memory (Address base) never = absurd (never base refl)

module _ (input : Input) (g : Placing) (r : Relocated) where
  none_left : (taking : Taking) (left : ℤ) → taking_of r.relocation.ty ≡ taking
      → ((base : AddressBase) → taking ≡ Address base → ⊥)
      → left ≡ left_of (address_named input g r) r.relocation → pos 0 ≡ left
  none_left taking left is never e =
      sym (e ∙ left_zero (address_named input g r) r.relocation (not_in_memory (taking_of r.relocation.ty) (λ base h. never base (sym is ∙ h))))

  value_at : (taking : Taking) (v : ℕ) (left : ℤ) → taking_of r.relocation.ty ≡ taking
      → pointer_named input g r ≡ Ok None → IsValueOf input g r taking v
      → left ≡ left_of (address_named input g r) r.relocation → IsTaken input g r taking (Value v left)
  value_at (Address base) v left is named h e =
      let first = field_is input g r base (Ok None) named in
      let second = ap (λ (x : Result ℤ RelocError). value_or_pointer (Ok None)
      (addend_left base (address_named input g r) r.relocation.addend) x) h.1 in
      let rest = e ∙ left_by r.relocation (address_named input g r) base is in
      first ∙ (second
      ∙ (ap (λ (n : ℕ). Ok (Value n (addend_left base (address_named input g r) r.relocation.addend))) (sym h.2)
      ∙ ap (λ (z : ℤ). Ok (Value v z)) (sym rest)))
  value_at TypeIndex v left is named h e =
      subst (λ (z : ℤ). IsTaken input g r TypeIndex (Value v z)) (none_left TypeIndex left is (λ base x. absurd cc) e) h
  value_at FunctionIndex v left is named h e =
      subst (λ (z : ℤ). IsTaken input g r FunctionIndex (Value v z)) (none_left FunctionIndex left is (λ base x. absurd cc) e) h
  value_at Slot v left is named h e =
      subst (λ (z : ℤ). IsTaken input g r Slot (Value v z)) (none_left Slot left is (λ base x. absurd cc) e) h
  value_at SlotBehindBase v left is named h e =
      subst (λ (z : ℤ). IsTaken input g r SlotBehindBase (Value v z)) (none_left SlotBehindBase left is (λ base x. absurd cc) e) h
  value_at GlobalIndex v left is named h e =
      subst (λ (z : ℤ). IsTaken input g r GlobalIndex (Value v z)) (none_left GlobalIndex left is (λ base x. absurd cc) e) h
  value_at TableNumber v left is named h e =
      subst (λ (z : ℤ). IsTaken input g r TableNumber (Value v z)) (none_left TableNumber left is (λ base x. absurd cc) e) h

-- ---- by the type of the relocation

pub refused_pointer : (input : Input) (g : Placing) (r : Relocated) (why : RelocError)
    → pointer_named input g r ≡ Err why → Answers input g r (taking_of r.relocation.ty) (Err why)
refused_pointer input g r why named = refused_at input g r (taking_of r.relocation.ty) why refl named

pub takes_pointer : (input : Input) (g : Placing) (r : Relocated) (offset : ℤ)
    → pointer_named input g r ≡ Ok (Some offset) → IsTaken input g r (taking_of r.relocation.ty) (Deferred offset)
takes_pointer input g r offset named = deferred_to input g r (taking_of r.relocation.ty) offset refl named

pub refused_value : (input : Input) (g : Placing) (r : Relocated) (why : RelocError)
    → pointer_named input g r ≡ Ok None → AnswersValue input g r (taking_of r.relocation.ty) (Err why)
    → Answers input g r (taking_of r.relocation.ty) (Err why)
refused_value input g r why named h = no_value input g r (taking_of r.relocation.ty) why named h

pub takes_value : (input : Input) (g : Placing) (r : Relocated) (v : ℕ) (left : ℤ)
    → pointer_named input g r ≡ Ok None → IsValueOf input g r (taking_of r.relocation.ty) v
    → left ≡ left_of (address_named input g r) r.relocation
    → IsTaken input g r (taking_of r.relocation.ty) (Value v left)
takes_value input g r v left named h e = value_at input g r (taking_of r.relocation.ty) v left refl named h e
